-- A rival's tables stay sound as its legal entries are played.
use Prim.Native.Nat.{ℕ, zero, suc, ◌/◌, ◌%◌, ◌≤◌, ◌<◌}
use mathlib.Core.Path.{◌≡◌, refl, sym, ap, ◌∙◌}
use mathlib.Core.Logic.{◌≢◌}
use mathlib.Core.Bool.{true, false, cond, true≢false}
use mathlib.Core.List.{List, [], ◌∷◌}
use native.Mathlib.Omega.{arith}
use lib.ListN.{set, length-set}
use lib.Dec.{eqb}
use borrow.Author.Tests.{eqb-true}
use Rattle.protocol_types.specs.Lists.{at}
use Rattle.protocol_types.specs.Board.{Fits, slots, slot, block_of, line_of}
use Rattle.protocol_types.specs.Conditions.{Named}
use Rattle.protocol.specs.Rival.{Rival, rival, RivalSized, no_copies, keeps, shared, unmarked, rival_fetched, rival_written_back, rival_dropped, completed_marks, rival_completed, played, refusal}
use Rattle.protocol_types.specs.declared.Setup.{Setup}
use Rattle.protocol_types.specs.declared.Block.{Block}
use Rattle.protocol_types.specs.declared.Request.{Request}
use Rattle.protocol_types.specs.declared.Operation.{Operation}
use Rattle.protocol_types.specs.declared.Operation.TheVariants.{Read, Write, Clear}
use Rattle.protocol_types.specs.declared.Entry.{Entry}
use Rattle.protocol_types.specs.declared.Entry.TheVariants.{Fetch, WriteBack, Drop, Complete, CompleteByBroadcast}
use Rattle.protocol_types.proofs.Laws.{Same, same, apart, same?, choice, chosen-zero, at_set_same, at_set_other, at-set-zero, at-zeros}
use Rattle.protocol_types.proofs.Board.{block-path, slot_lt, slot_of, slot-proper, processor-lt, block-lt}
use Rattle.protocol.proofs.Rival.{Completable, Completion, completion-legal, move-legal, sized-no_copies, sized-played}
use Rattle.competitive.proofs.Bound.{held, copy, keeps_at-true, true-keeps_at, shared-some}

abbrev pub mark : Rival → ℕ → ℕ
mark r k = at r.marks k

-- slot k with held mark h, block c and mark m
pub record Copy (s : Setup) (k h c m : ℕ) : Type 0 where
  pub few : h ≤ 1
  pub no_block : h ≡ 0 → c ≡ 0
  pub no-mark : h ≡ 0 → m ≡ 0
  pub below : h ≡ 1 → c < s.blocks
  pub proper : h ≡ 1 → k % s.lines ≡ line_of s (record { 0 = c })
  pub mark-le : m ≤ 1

pub record RivalSound (s : Setup) (r : Rival) : Type 0 where
  pub sized : RivalSized s r
  pub line : (k : ℕ) → k < slots s → Copy s k (held r k) (copy r k) (mark r k)
  pub lone : (k m : ℕ) → k < slots s → m < slots s → mark r k ≡ 1 → m ≢ k → held r m ≡ 1 → copy r m ≢ copy r k

pub sound-no_copies : (s : Setup) → RivalSound s (no_copies s)
unfolding no_copies
sound-no_copies s = record {
  sized = sized-no_copies s;
  line = λ k h. record {
    few = omega (arith, at-zeros (slots s) k);
    no_block = λ e. at-zeros (slots s) k;
    no-mark = λ e. at-zeros (slots s) k;
    below = λ e. absurd (omega (arith, at-zeros (slots s) k));
    proper = λ e. absurd (omega (arith, at-zeros (slots s) k));
    mark-le = omega (arith, at-zeros (slots s) k);
  };
  lone = λ k m h l e. absurd (omega (arith, at-zeros (slots s) k));
}

-- ---- marks cleared elsewhere

set-zero-le : (l : List ℕ) (k m : ℕ) → at (set l k 0) m ≤ at l m
set-zero-le l k m = go (same? m k)
  where
    go : Same m k → at (set l k 0) m ≤ at l m
    go (same e q) = rw e (omega (arith, at-set-zero l k))
    go (apart d q) = omega (arith, at_set_other l k 0 m d)

pub unmarked-le : (s : Setup) (r : Rival) (b : Block) (n m : ℕ) → at (unmarked s r b n) m ≤ mark r m
unmarked-le s r b zero m = omega arith
unmarked-le s r b (suc n) m = choice (λ z. at z m ≤ mark r m) (keeps s r n b) (λ e. omega (arith, set-zero-le (unmarked s r b n) (slot s n b) m, unmarked-le s r b n m)) (λ e. unmarked-le s r b n m)

pub unmarked-clear : (s : Setup) (r : Rival) (b : Block) (n j : ℕ) → j < n → keeps s r j b ≡ true → at (unmarked s r b n) (slot s j b) ≡ 0
unmarked-clear s r b zero j l e = absurd (omega arith)
unmarked-clear s r b (suc n) j l e = go (same? j n) (λ l'. unmarked-clear s r b n j l' e)
  where
    go : Same j n → (j < n → at (unmarked s r b n) (slot s j b) ≡ 0) → at (cond (keeps s r n b) (set (unmarked s r b n) (slot s n b) 0) (unmarked s r b n)) (slot s j b) ≡ 0
    go (same p q) f = rw p (rw (rw p at e) (at-set-zero (unmarked s r b n) (slot s n b)))
    go (apart d q) f = choice (λ z. at z (slot s j b) ≡ 0) (keeps s r n b) (λ c. omega (arith, set-zero-le (unmarked s r b n) (slot s n b) (slot s j b), f (omega arith))) (λ c. f (omega arith))

-- ---- slot k alone changes, and marks elsewhere only fall

change : (s : Setup) (r r' : Rival) → RivalSound s r → RivalSized s r'
    → (k : ℕ) → ((m : ℕ) → m ≢ k → held r' m ≡ held r m) → ((m : ℕ) → m ≢ k → copy r' m ≡ copy r m) → ((m : ℕ) → m ≢ k → mark r' m ≤ mark r m)
    → Copy s k (held r' k) (copy r' k) (mark r' k)
    → ((a m : ℕ) → a < slots s → m < slots s → mark r' a ≡ 1 → m ≢ a → held r' m ≡ 1 → copy r' m ≢ copy r' a)
    → RivalSound s r'
change s r r' sd z k eh eb em new lone' = record { sized = z; line = λ m h. go m h (same? m k); lone = lone' }
  where
    go : (m : ℕ) → m < slots s → Same m k → Copy s m (held r' m) (copy r' m) (mark r' m)
    go m h (same e q) = rw e new
    go m h (apart d q) =
        let o = sd.line m h in
        rw (eh m d, eb m d)
        (record { few = o.few; no_block = o.no_block; no-mark = λ e. omega (arith, em m d, o.no-mark e); below = o.below; proper = o.proper; mark-le = omega (arith, em m d, o.mark-le) })

module _ (s : Setup) (ok : Fits s) (r : Rival) (sd : RivalSound s r) (i : ℕ) (b : Block) (hi : i < s.processors) (hb : b.0 < s.blocks) where
  abbrev k : ℕ
  k = slot s i b

  k_lt : k < slots s
  k_lt = slot_lt s ok i b hi

  -- a slot that holds b is b's slot at its processor
  pub kept_at : (m : ℕ) → m < slots s → held r m ≡ 1 → copy r m ≡ b.0 → (slot s (m / s.lines) b ≡ m) × (keeps s r (m / s.lines) b ≡ true)
  unfolding keeps
  kept_at m l h e =
      let p : slot s (m / s.lines) b ≡ m = slot_of s ok m b ((sd.line m l).proper h ∙ ap (line_of s) (block-path e)) in
      (p, rw p (true-keeps_at r m b h e))

  pub sound-fetched : held r k ≡ 0 → RivalSound s (rival_fetched s r i b)
  unfolding rival_fetched
  sound-fetched empty =
      change s r (rival_fetched s r i b) sd (sized-played s r sd.sized [] (Fetch i b)) k
      (λ m d. at_set_other r.held k 1 m d) (λ m d. at_set_other r.blocks k b.0 m d) (λ m d. omega (arith, mark-other m d, unmarked-le s r b s.processors m))
      (record {
        few = omega (arith, held_same);
        no_block = λ e. absurd (omega (arith, held_same));
        no-mark = λ e. mark-same;
        below = λ e. omega (arith, block_same);
        proper = λ e. slot-proper s ok i b ∙ ap (line_of s) (block-path (sym block_same));
        mark-le = omega (arith, mark-same);
      })
      (λ a m la lm e d h. alone a m la lm e d h (same? a k) (same? m k))
    where
      held_same : at (set r.held k 1) k ≡ 1
      held_same = at_set_same r.held k 1 (omega (arith, sd.sized.held, k_lt))

      block_same : at (set r.blocks k b.0) k ≡ b.0
      block_same = at_set_same r.blocks k b.0 (omega (arith, sd.sized.blocks, k_lt))

      mark-same : at (set (unmarked s r b s.processors) k 0) k ≡ 0
      mark-same = at-set-zero (unmarked s r b s.processors) k

      mark-other : (m : ℕ) → m ≢ k → at (set (unmarked s r b s.processors) k 0) m ≡ at (unmarked s r b s.processors) m
      mark-other m d = at_set_other (unmarked s r b s.processors) k 0 m d

      -- what is still marked is another block
      was : (a : ℕ) → a < slots s → a ≢ k → at (set (unmarked s r b s.processors) k 0) a ≡ 1 → (mark r a ≡ 1) × (copy r a ≢ b.0)
      was a la d e = (
        omega (arith, mark-other a d, unmarked-le s r b s.processors a, (sd.line a la).mark-le),
        λ c. cleared c (kept_at a la (holds-it a la (omega (arith, mark-other a d, unmarked-le s r b s.processors a))) c),
      )
        where
          holds-it : (a : ℕ) → a < slots s → 1 ≤ mark r a → held r a ≡ 1
          holds-it a la h = go (same? (held r a) 1)
            where
              go : Same (held r a) 1 → held r a ≡ 1
              go (same p q) = p
              go (apart p q) = absurd (omega (arith, (sd.line a la).few, (sd.line a la).no-mark (omega (arith, (sd.line a la).few))))

          cleared : copy r a ≡ b.0 → (slot s (a / s.lines) b ≡ a) × (keeps s r (a / s.lines) b ≡ true) → ⊥
          cleared c p =
              let z : at (unmarked s r b s.processors) a ≡ 0 = rw p.0 at (unmarked-clear s r b s.processors (a / s.lines) (processor-lt s ok a la) p.1) in
              omega (arith, mark-other a d)

      alone : (a m : ℕ) → a < slots s → m < slots s → at (set (unmarked s r b s.processors) k 0) a ≡ 1 → m ≢ a → at (set r.held k 1) m ≡ 1 → Same a k → Same m k
          → at (set r.blocks k b.0) m ≢ at (set r.blocks k b.0) a
      alone a m la lm e d h (same p q) y = absurd (omega (arith, ap (at (set (unmarked s r b s.processors) k 0)) p, mark-same))
      alone a m la lm e d h (apart p q) (same x y) = λ c. (was a la p e).1 (sym (at_set_other r.blocks k b.0 a p) ∙ sym c ∙ ap (at (set r.blocks k b.0)) x ∙ block_same)
      alone a m la lm e d h (apart p q) (apart x y) =
          λ c. sd.lone a m la lm (was a la p e).0 d (sym (at_set_other r.held k 1 m x) ∙ h)
          (sym (at_set_other r.blocks k b.0 m x) ∙ c ∙ at_set_other r.blocks k b.0 a p)

  pub sound-written_back : RivalSound s (rival_written_back s r i b)
  unfolding rival_written_back
  sound-written_back =
      change s r (rival_written_back s r i b) sd (sized-played s r sd.sized [] (WriteBack i b)) k (λ m d. refl) (λ m d. refl) (λ m d. set-zero-le r.marks k m)
      (let o = sd.line k k_lt in
      record { few = o.few; no_block = o.no_block; no-mark = λ e. at-set-zero r.marks k; below = o.below; proper = o.proper; mark-le = omega (arith, at-set-zero r.marks k) })
      (λ a m la lm e d h. sd.lone a m la lm (omega (arith, set-zero-le r.marks k a, (sd.line a la).mark-le)) d h)

  pub sound-dropped : RivalSound s (rival_dropped s r i b)
  unfolding rival_dropped
  sound-dropped =
      change s r (rival_dropped s r i b) sd (sized-played s r sd.sized [] (Drop i b)) k
      (λ m d. at_set_other r.held k 0 m d) (λ m d. at_set_other r.blocks k 0 m d) (λ m d. set-zero-le r.marks k m)
      (record {
        few = omega (arith, at-set-zero r.held k);
        no_block = λ e. at-set-zero r.blocks k;
        no-mark = λ e. at-set-zero r.marks k;
        below = λ e. absurd (omega (arith, at-set-zero r.held k));
        proper = λ e. absurd (omega (arith, at-set-zero r.held k));
        mark-le = omega (arith, at-set-zero r.marks k);
      })
      (λ a m la lm e d h. alone a m la lm e d h (same? a k) (same? m k))
    where
      alone : (a m : ℕ) → a < slots s → m < slots s → at (set r.marks k 0) a ≡ 1 → m ≢ a → at (set r.held k 0) m ≡ 1 → Same a k → Same m k
          → at (set r.blocks k 0) m ≢ at (set r.blocks k 0) a
      alone a m la lm e d h (same p q) y = absurd (omega (arith, ap (at (set r.marks k 0)) p, at-set-zero r.marks k))
      alone a m la lm e d h (apart p q) (same x y) = absurd (omega (arith, ap (at (set r.held k 0)) x, at-set-zero r.held k))
      alone a m la lm e d h (apart p q) (apart x y) =
          λ c. sd.lone a m la lm (sym (at_set_other r.marks k 0 a p) ∙ e) d (sym (at_set_other r.held k 0 m x) ∙ h)
          (sym (at_set_other r.blocks k 0 m x) ∙ c ∙ at_set_other r.blocks k 0 a p)

  -- a write marks b where no other has it
  sound-marked : keeps s r i b ≡ true → shared s r i b ≡ false → RivalSound s (record { blocks = r.blocks; held = r.held; marks = set r.marks k 1 })
  unfolding keeps
  sound-marked kp sh =
      change s r (record { blocks = r.blocks; held = r.held; marks = set r.marks k 1 }) sd
      (record { blocks = sd.sized.blocks; held = sd.sized.held; marks = length-set r.marks k 1 ∙ sd.sized.marks }) k
      (λ m d. refl) (λ m d. refl) (λ m d. omega (arith, at_set_other r.marks k 1 m d))
      (let o = sd.line k k_lt in
      record { few = o.few; no_block = o.no_block; no-mark = λ e. absurd (omega (arith, kept.0)); below = o.below; proper = o.proper; mark-le = omega (arith, mark-same) })
      (λ a m la lm e d h. alone a m la lm e d h (same? a k))
    where
      kept : (held r k ≡ 1) × (copy r k ≡ b.0)
      kept = keeps_at-true r k b kp

      mark-same : at (set r.marks k 1) k ≡ 1
      mark-same = at_set_same r.marks k 1 (omega (arith, sd.sized.marks, k_lt))

      other : (m : ℕ) → m < slots s → m ≢ k → held r m ≡ 1 → copy r m ≡ b.0 → ⊥
      other m lm d h c =
          let p = kept_at m lm h c in
          true≢false (sym (shared-some s r i (m / s.lines) b (processor-lt s ok m lm) (λ z. d (sym p.0 ∙ ap (λ j. slot s j b) z)) p.1) ∙ sh)

      alone : (a m : ℕ) → a < slots s → m < slots s → at (set r.marks k 1) a ≡ 1 → m ≢ a → held r m ≡ 1 → Same a k → copy r m ≢ copy r a
      alone a m la lm e d h (same p q) = λ c. other m lm (λ z. d (z ∙ sym p)) h (c ∙ ap (copy r) p ∙ kept.1)
      alone a m la lm e d h (apart p q) = sd.lone a m la lm (sym (at_set_other r.marks k 1 a p) ∙ e) d h

-- a completion, where its operation may be completed
sound-marks : (s : Setup) → Fits s → (r : Rival) → RivalSound s r → (i : ℕ) (o : Operation) → i < s.processors → Named s o → Completable s r i o
    → RivalSound s (rival r.blocks r.held (completed_marks s r i o))
sound-marks s ok r sd i (Read v) l h k = sd
sound-marks s ok r sd i (Write v x) l h k =
    choice (λ z. RivalSound s (rival r.blocks r.held z)) (shared s r i (block_of s v)) (λ e. sd)
    (λ e. sound-marked s ok r sd i (block_of s v) l (block-lt s ok v h) k e)
sound-marks s ok r sd i Clear l h k = sd

pub sound-completed : (s : Setup) → Fits s → (r : Rival) → RivalSound s r → (q : Request) → Completion s r q → RivalSound s (rival_completed s r q)
unfolding rival_completed
sound-completed s ok r sd q c = sound-marks s ok r sd q.processor q.operation c.valid.processor c.valid.operation c.ready

pub sound-played : (s : Setup) → Fits s → (r : Rival) → RivalSound s r → (qs : List Request) (e : Entry) → refusal s r qs e ≡ 0 → RivalSound s (played s r qs e)
sound-played s ok r sd qs (Fetch i b) h =
    let v = move-legal s i b _ h in
    sound-fetched s ok r sd i b v.processor v.block (eqb-true (at r.held (slot s i b)) 0 (chosen-zero (eqb (at r.held (slot s i b)) 0) 0 23 (omega arith) v.rest).0)
sound-played s ok r sd qs (WriteBack i b) h = let v = move-legal s i b _ h in sound-written_back s ok r sd i b v.processor v.block
sound-played s ok r sd qs (Drop i b) h = let v = move-legal s i b _ h in sound-dropped s ok r sd i b v.processor v.block
sound-played s ok r sd [] Complete h = sd
sound-played s ok r sd (q ∷ qs) Complete h = sound-completed s ok r sd q (completion-legal s r q false h)
sound-played s ok r sd qs CompleteByBroadcast h = sd
