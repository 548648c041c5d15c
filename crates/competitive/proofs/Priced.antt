-- The pricer accepts exactly the legal schedules, at their cost, and shows the rival's last copies.
use Prim.Native.Nat.{ℕ, ◌+◌}
use mathlib.Core.Path.{◌≡◌, refl, sym, ap, subst, ◌∙◌}
use mathlib.Core.Bool.{Bool, true, false, cond, true≢false}
use mathlib.Core.List.{List, [], ◌∷◌}
use native.Mathlib.Omega.{arith}
use lib.ListN.{length}
use lib.Dec.{eqb}
use borrow.Author.Tests.{eqb-true, eq-eqb}
use Rattle.protocol_types.specs.Refusals.{no_refusal}
use Rattle.protocol.specs.Accounts.{nothing, plus, cycles}
use Rattle.protocol.specs.Rival.{Rival, no_copies, played, left, cost, refusal, Legal, costs, last_copies}
use Rattle.protocol.specs.Pricer.{Verdict, accepted, refused, judged, verdict, price_refusal, answer_to, price, copies_after, price_tables}
use Rattle.competitive.specs.Claims.{Shown, PricedRight, JudgedRight}
use Rattle.protocol_types.specs.declared.Setup.{Setup}
use Rattle.protocol_types.specs.declared.Request.{Request}
use Rattle.protocol_types.specs.declared.Bill.{Bill}
use Rattle.protocol_types.specs.declared.Entry.{Entry}
use Rattle.protocol_types.specs.Answers.{PriceAnswer}
use Rattle.protocol_types.specs.Answers.{Accepted, Refused}
use Rattle.protocol.proofs.Accounts.{bill-path}
use Rattle.protocol.proofs.Rival.{sized-no_copies}
use Rattle.protocol.proofs.Pricer.{price-passed}
use Rattle.competitive.proofs.Shown.{none-shown, last-shown}

-- ---- the verdict

abbrev is_accepted : Verdict → Bool
is_accepted (accepted r c) = true
is_accepted (refused n k) = false

legal-accepted : (s : Setup) (r : Rival) (qs : List Request) (es : List Entry) (n : ℕ) (c : Bill) → Legal s r qs es
    → judged s r qs es n c ≡ accepted (last_copies s r qs es) (plus c (costs s r qs es))
legal-accepted s r qs [] n c l = rw l (ap (accepted r) (bill-path (omega arith) (omega arith) (omega arith)))
legal-accepted s r qs (e ∷ es) n c l =
    rw (eq-eqb (refusal s r qs e) 0 l.0)
    (legal-accepted s (played s r qs e) (left qs e) es (n + 1) (plus c (cost s r qs e)) l.1
    ∙ ap (accepted (last_copies s (played s r qs e) (left qs e) es)) (bill-path (omega arith) (omega arith) (omega arith)))

-- nothing else is accepted
accepted-legal : (s : Setup) (r : Rival) (qs : List Request) (es : List Entry) (n : ℕ) (c : Bill) → is_accepted (judged s r qs es n c) ≡ true → Legal s r qs es
accepted-legal s r [] [] n c a = refl
accepted-legal s r (q ∷ qs) [] n c a = absurd (true≢false (sym a))
accepted-legal s r qs (e ∷ es) n c a =
    go (eqb (refusal s r qs e) 0) refl a (λ b. accepted-legal s (played s r qs e) (left qs e) es (n + 1) (plus c (cost s r qs e)) b)
  where
    later : Verdict
    later = judged s (played s r qs e) (left qs e) es (n + 1) (plus c (cost s r qs e))

    go : (t : Bool) → eqb (refusal s r qs e) 0 ≡ t → is_accepted (cond t later (refused (refusal s r qs e) n)) ≡ true
        → (is_accepted later ≡ true → Legal s (played s r qs e) (left qs e) es) → Legal s r qs (e ∷ es)
    go true p b f = (eqb-true _ _ p, f b)
    go false p b f = absurd (true≢false (sym b))

-- ---- the answer

abbrev is_cost : PriceAnswer → Bool
is_cost (Accepted c) = true
is_cost (Refused n k) = false

answer-accepted : (v : Verdict) → is_cost (answer_to v) ≡ is_accepted v
answer-accepted (accepted r c) = refl
answer-accepted (refused n k) = refl

-- a verdict that is answered by a refusal leaves zeros
refused-clears : (s : Setup) (v : Verdict) → is_cost (answer_to v) ≡ false → copies_after s v ≡ no_copies s
refused-clears s (accepted r c) e = absurd (true≢false e)
refused-clears s (refused n k) e = refl

module _ (s : Setup) (qs : List Request) (es : List Entry) where
  legal-verdict : Legal s (no_copies s) qs es → verdict s qs es ≡ accepted (last_copies s (no_copies s) qs es) (costs s (no_copies s) qs es)
  unfolding verdict
  legal-verdict l =
      legal-accepted s (no_copies s) qs es 0 nothing l
      ∙ ap (accepted (last_copies s (no_copies s) qs es))
      (bill-path {a = plus nothing (costs s (no_copies s) qs es)} {c = costs s (no_copies s) qs es} (omega arith) (omega arith) (omega arith))

  verdict-legal : is_accepted (verdict s qs es) ≡ true → Legal s (no_copies s) qs es
  unfolding verdict
  verdict-legal a = accepted-legal s (no_copies s) qs es 0 nothing a

  pub judged-right : JudgedRight s qs es
  judged-right = record { accepts = legal-verdict; only = λ r c e. verdict-legal (ap is_accepted e) }

module _ (s : Setup) (lent : Rival) (qs : List Request) (es : List Entry) (ok : price_refusal s lent (length es) (length qs) ≡ no_refusal) where
  price-is : price s lent qs es ≡ answer_to (verdict s qs es)
  unfolding price
  price-is = rw ok

  tables-are : price_tables s lent qs es ≡ copies_after s (verdict s qs es)
  unfolding price_tables
  tables-are = rw ok

  accepts : Legal s (no_copies s) qs es → price s lent qs es ≡ Accepted (cycles (costs s (no_copies s) qs es))
  accepts l = price-is ∙ ap answer_to (legal-verdict s qs es l)

  only : (c : ℕ) → price s lent qs es ≡ Accepted c → Legal s (no_copies s) qs es
  only c e = verdict-legal s qs es (sym (answer-accepted (verdict s qs es)) ∙ ap is_cost (sym price-is ∙ e))

  shows : Legal s (no_copies s) qs es → price_tables s lent qs es ≡ last_copies s (no_copies s) qs es
  shows l = tables-are ∙ ap (copies_after s) (legal-verdict s qs es l)

  shown : Legal s (no_copies s) qs es → Shown (price_tables s lent qs es)
  shown l =
      let w = price-passed s lent (length es) (length qs) ok in
      subst Shown (sym (shows l)) (last-shown s w.fits (no_copies s) (sized-no_copies s) (none-shown s) qs es l)

  pub priced-right : PricedRight s lent qs es
  priced-right = record {
    accepts = accepts;
    shows = shows;
    only = only;
    clears = λ n k e. tables-are ∙ refused-clears s (verdict s qs es) (ap is_cost (sym price-is ∙ e));
    truly = λ c e. let l = accepts (only c e) in cc;
    shown = λ c e. shown (only c e);
  }
