-- What any list of runs of any lawful engine leaves: the account grows by what the rules charge for the requests taken,
-- the values are the expected ones, and neither 20 nor 21 is met.
use Prim.Native.Nat.{ℕ, suc, ◌+◌, ◌<◌}
use mathlib.Core.Path.{◌≡◌, refl, sym, ap, ◌∙◌}
use mathlib.Core.Logic.{◌≢◌}
use mathlib.Core.Bool.{Bool, true, false, cond}
use mathlib.Core.List.{List, [], ◌∷◌, ◌++◌}
use native.Mathlib.Omega.{arith}
use native.Mathlib.Nat.{mul-suc}
use lib.ListN.{length, length-append}
use lib.Dec.{eqb}
use borrow.Author.Tests.{eqb-true, ne_eqb}
use Rattle.protocol_types.specs.Lists.{tail, Each}
use Rattle.protocol_types.specs.Refusals.{no_refusal, wrong_length, unsound_tables, impossible_account}
use Rattle.protocol_types.specs.Board.{fetch_price, most_write_back}
use Rattle.protocol.specs.Accounts.{entered, Spent}
use Rattle.protocol_types.specs.Conditions.{request_limit}
use Rattle.protocol.specs.Engines.{Engine, Outcome, ended_by, onward, run_from, run, Run, State, outcome_of, left_by, outcomes, runs, taken_from, taken_run, taken_all, served_all, spent, expected_from, expected_run, expected_all, values_of, Never20Or21}
use Rattle.protocol_types.specs.declared.Setup.{Setup}
use Rattle.protocol_types.specs.declared.Bill.{Bill}
use Rattle.protocol_types.specs.declared.Account.{Account}
use Rattle.protocol_types.proofs.Laws.{choice}
use Rattle.protocol.proofs.Accounts.{Possible, account-path}

-- ---- what is asked of an engine

-- a refusal that is neither of the two
abbrev pub Neither20Nor21 : ℕ → Type 0
Neither20Nor21 n = (n ≢ unsound_tables) × (n ≢ impossible_account)

-- Good holds of tables that 2 and 20 let through, Valid of requests that 3 and 4 let through
pub record Serving {T Q : Type 0} (s : Setup) (E : Engine T Q) (Good : T → Type 0) (Valid : Q → Type 0) : Type 0 where
  pub passed : (n : ℕ) (q : Q) → E.refusal n q ≡ no_refusal → Valid q × (n < request_limit)
  pub kept : (t : T) (q : Q) → Good t → Valid q → Good (E.served t q)
  pub small : (t : T) (q : Q) → Spent s 1 (E.bill t q)

pub record Lawful {T Q : Type 0} (s : Setup) (E : Engine T Q) (Good : T → Type 0) (Valid : Q → Type 0) : Type 0 where
  pub serving : Serving s E Good Valid
  pub neither : (n : ℕ) (q : Q) → Neither20Nor21 (E.refusal n q)
  -- a run on good tables and a possible account is refused by 2 alone
  pub checked : (t : T) (a : Account) (n : ℕ) (vs : List ℕ) → Good t → Possible s a
      → E.run_refusal t a n vs ≡ cond (eqb (length vs) n) no_refusal wrong_length

-- ---- lists of requests, whatever the engine

state-path : {T : Type 0} {w z : State T} → w.tables ≡ z.tables → w.account ≡ z.account → w ≡ z
state-path e f = λ i. record { tables = e i; account = f i }

pub valid-append : {Q : Type 0} (P : Q → Type 0) (xs ys : List Q) → Each P xs → Each P ys → Each P (xs ++ ys)
valid-append P [] ys a b = b
valid-append P (q ∷ xs) ys a b = (a.0, valid-append P xs ys a.1 b)

pub record SpentAppend (c d e : Bill) : Type 0 where
  pub fetch : c.fetch ≡ d.fetch + e.fetch
  pub write-back : c.write_back ≡ d.write_back + e.write_back
  pub update : c.update ≡ d.update + e.update

-- what a run leaves, where ts are the requests that it took
pub record Left {T Q : Type 0} (E : Engine T Q) (t : T) (a : Account) (ts : List Q) (o : Outcome T) : Type 0 where
  pub tables : o.tables ≡ served_all E t ts
  pub account : o.account ≡ entered a (length ts) (spent E t ts)
  pub taken : o.answer.taken ≡ length ts

-- the state after taking ts
abbrev pub state_after : {T Q : Type 0} → Engine T Q → T → Account → List Q → State T
state_after E t a ts = record { tables = served_all E t ts; account = entered a (length ts) (spent E t ts) }

module _ {T Q : Type 0} (E : Engine T Q) where
  pub served-append : (t : T) (xs ys : List Q) → served_all E t (xs ++ ys) ≡ served_all E (served_all E t xs) ys
  served-append t [] ys = refl
  served-append t (q ∷ xs) ys = served-append (E.served t q) xs ys

  pub spent-append : (t : T) (xs ys : List Q) → SpentAppend (spent E t (xs ++ ys)) (spent E t xs) (spent E (served_all E t xs) ys)
  spent-append t [] ys = record { fetch = omega arith; write-back = omega arith; update = omega arith }
  spent-append t (q ∷ xs) ys =
      let e = spent-append (E.served t q) xs ys in
      record { fetch = omega (arith, e.fetch); write-back = omega (arith, e.write-back); update = omega (arith, e.update) }

  left-none : (t : T) (a : Account) (vs : List ℕ) (n : ℕ) → Left E t a [] (ended_by n t a vs)
  left-none t a vs n = record { tables = refl; account = account-path (omega arith) (omega arith) (omega arith) (omega arith); taken = refl }

  run_from-left : (t : T) (a : Account) (qs : List Q) (vs : List ℕ) → Left E t a (taken_from E a.requests qs) (run_from E t a qs vs)
  run_from-left t a [] vs = left-none t a vs 0
  run_from-left t a (q ∷ qs) vs =
      go (eqb (E.refusal a.requests q) 0) (run_from-left (E.served t q) (entered a 1 (E.bill t q)) qs (tail vs))
    where
      o : Outcome T
      o = run_from E (E.served t q) (entered a 1 (E.bill t q)) qs (tail vs)

      ts : List Q
      ts = taken_from E (a.requests + 1) qs

      go : (c : Bool) → Left E (E.served t q) (entered a 1 (E.bill t q)) ts o
          → Left E t a (cond c (q ∷ ts) []) (cond c (onward (E.value t q) o) (ended_by (E.refusal a.requests q) t a vs))
      go true h = record {
        tables = h.tables;
        account = h.account ∙ account-path (omega arith) (omega arith) (omega arith) (omega arith);
        taken = ap suc h.taken;
      }
      go false h = left-none t a vs (E.refusal a.requests q)

  -- where every run is refused before its first request, a list of runs leaves what it met
  refused-left : (w : State T) (r : Run Q) → E.run_refusal w.tables w.account (length r.requests) r.values ≢ no_refusal → left_by (outcome_of E w r) ≡ w
  unfolding run
  refused-left w r d = rw (ne_eqb _ _ d)

  pub refused-runs : (w : State T) → ((n : ℕ) (vs : List ℕ) → E.run_refusal w.tables w.account n vs ≢ no_refusal) → (rs : List (Run Q)) → runs E w rs ≡ w
  refused-runs w d [] = refl
  refused-runs w d (r ∷ rs) = rw (refused-left w r (d (length r.requests) r.values)) (refused-runs w d rs)

-- ---- a lawful engine

module _ {T Q : Type 0} (s : Setup) (E : Engine T Q) (Good : T → Type 0) (Valid : Q → Type 0) (L : Lawful s E Good Valid) where
  pub good-all : (t : T) → Good t → (qs : List Q) → Each Valid qs → Good (served_all E t qs)
  good-all t g [] va = g
  good-all t g (q ∷ qs) va = good-all (E.served t q) (L.serving.kept t q g va.0) qs va.1

  taken-valid : (n : ℕ) (qs : List Q) → Each Valid (taken_from E n qs)
  taken-valid n [] = tt
  taken-valid n (q ∷ qs) =
      choice (Each Valid) (eqb (E.refusal n q) 0) (λ e. ((L.serving.passed n q (eqb-true _ _ e)).0, taken-valid (n + 1) qs)) (λ e. tt)

  pub run-valid : (n : ℕ) (r : Run Q) → Each Valid (taken_run E n r)
  unfolding taken_run
  run-valid n r = choice (Each Valid) (eqb (length r.values) (length r.requests)) (λ e. taken-valid n r.requests) (λ e. tt)

  pub all_valid : (n : ℕ) (rs : List (Run Q)) → Each Valid (taken_all E n rs)
  all_valid n [] = tt
  all_valid n (r ∷ rs) =
      valid-append Valid (taken_run E n r) (taken_all E (n + length (taken_run E n r)) rs) (run-valid n r) (all_valid (n + length (taken_run E n r)) rs)

  -- ---- accounts stay possible

  spent-small : (t : T) (qs : List Q) → Spent s (length qs) (spent E t qs)
  spent-small t [] = record { fetch = omega arith; write-back = omega arith; update = omega arith }
  spent-small t (q ∷ qs) =
      let e = spent-small (E.served t q) qs in
      let d = L.serving.small t q in
      let n = length qs in
      record {
        fetch = omega (arith, e.fetch, d.fetch, mul-suc (fetch_price s) n);
        write-back = omega (arith, e.write-back, d.write-back, mul-suc (most_write_back s) n);
        update = omega (arith, e.update, d.update);
      }

  pub run-possible : (t : T) (a : Account) (ts : List Q) → Possible s a → Possible s (state_after E t a ts).account
  run-possible t a ts e =
      let d = spent-small t ts in
      record { fetch = omega (arith, e.fetch, d.fetch); write-back = omega (arith, e.write-back, d.write-back); update = omega (arith, e.update, d.update) }

  -- ---- what a run leaves

  pub run-left : (t : T) (a : Account) (r : Run Q) → Good t → Possible s a
      → Left E t a (taken_run E a.requests r) (run E t a r.requests r.values)
  unfolding run taken_run
  run-left t a r g p =
      rw (L.checked t a (length r.requests) r.values g p) (go (eqb (length r.values) (length r.requests)))
    where
      go : (c : Bool)
          → Left E t a (cond c (taken_from E a.requests r.requests) [])
          (cond (eqb (cond c no_refusal wrong_length) 0) (run_from E t a r.requests r.values) (ended_by (cond c no_refusal wrong_length) t a r.values))
      go true = run_from-left E t a r.requests r.values
      go false = left-none E t a r.values 2

  run-state : (t : T) (a : Account) (r : Run Q) → Good t → Possible s a
      → left_by (outcome_of E (record { tables = t; account = a }) r) ≡ state_after E t a (taken_run E a.requests r)
  run-state t a r g p = let l = run-left t a r g p in state-path l.tables l.account

  pub runs-left : (rs : List (Run Q)) (t : T) (a : Account) → Good t → Possible s a
      → runs E (record { tables = t; account = a }) rs ≡ state_after E t a (taken_all E a.requests rs)
  runs-left [] t a g p = state-path refl (account-path (omega arith) (omega arith) (omega arith) (omega arith))
  runs-left (r ∷ rs) t a g p =
      let ts : List Q = taken_run E a.requests r in
      let us : List Q = taken_all E (a.requests + length ts) rs in
      let w : State T = state_after E t a ts in
      let e = spent-append E t ts us in
      ap (λ w. runs E w rs) (run-state t a r g p)
      ∙ runs-left rs w.tables w.account (good-all t g ts (run-valid a.requests r)) (run-possible t a ts p)
      ∙ state-path (sym (served-append E t ts us))
      (account-path (omega (arith, length-append ts us)) (omega (arith, e.fetch)) (omega (arith, e.write-back)) (omega (arith, e.update)))

  -- ---- no run is refused by 20 or 21

  run_from-meets-neither : (t : T) (a : Account) (qs : List Q) (vs : List ℕ) → Neither20Nor21 (run_from E t a qs vs).answer.refusal
  run_from-meets-neither t a [] vs = (λ e. omega arith, λ e. omega arith)
  run_from-meets-neither t a (q ∷ qs) vs =
      choice (λ (z : Outcome T). Neither20Nor21 z.answer.refusal) (eqb (E.refusal a.requests q) 0)
      (λ _. run_from-meets-neither (E.served t q) (entered a 1 (E.bill t q)) qs (tail vs)) (λ _. L.neither a.requests q)

  -- ---- the values, from tables t₀ where `expected` tells the value of a request after others

  module _ (expected : List Q → Q → ℕ) (t₀ : T) (g₀ : Good t₀)
      (is-expected : (ps : List Q) (q : Q) → Each Valid ps → Valid q → E.value (served_all E t₀ ps) q ≡ expected ps q) where
    run_from-values : (a : Account) (ps : List Q) → Each Valid ps → (qs : List Q) (vs : List ℕ)
        → (run_from E (served_all E t₀ ps) a qs vs).values ≡ expected_from E expected a.requests ps qs vs
    run_from-values a ps va [] vs = refl
    run_from-values a ps va (q ∷ qs) vs =
        go (eqb (E.refusal a.requests q) 0) refl
        (λ v. run_from-values (entered a 1 (E.bill (served_all E t₀ ps) q)) (ps ++ q ∷ []) (valid-append Valid ps (q ∷ []) va (v, tt)) qs (tail vs))
      where
        t : T
        t = served_all E t₀ ps

        a' : Account
        a' = entered a 1 (E.bill t q)

        later : List ℕ
        later = expected_from E expected (a.requests + 1) (ps ++ q ∷ []) qs (tail vs)

        go : (c : Bool) → eqb (E.refusal a.requests q) 0 ≡ c
            → (Valid q → (run_from E (served_all E t₀ (ps ++ q ∷ [])) a' qs (tail vs)).values ≡ later)
            → (cond c (onward (E.value t q) (run_from E (E.served t q) a' qs (tail vs))) (ended_by (E.refusal a.requests q) t a vs)).values
            ≡ cond c (expected ps q ∷ later) vs
        go true e h =
            let v = (L.serving.passed a.requests q (eqb-true _ _ e)).0 in
            let w : (run_from E (E.served t q) a' qs (tail vs)).values ≡ later
            = ap (λ z. (run_from E z a' qs (tail vs)).values) (sym (served-append E t₀ ps (q ∷ []))) ∙ h v in
            λ i. is-expected ps q va v i ∷ w i
        go false e h = refl

    abbrev from : List Q → Account → State T
    from ps a = record { tables = served_all E t₀ ps; account = a }

    good-ps : (ps : List Q) → Each Valid ps → Good (served_all E t₀ ps)
    good-ps ps va = good-all t₀ g₀ ps va

    -- the values of one run, and its refusal
    run-values : (ps : List Q) → Each Valid ps → (a : Account) → Possible s a → (r : Run Q)
        → ((outcome_of E (from ps a) r).values ≡ expected_run E expected a.requests ps r) × Neither20Nor21 (outcome_of E (from ps a) r).answer.refusal
    unfolding run expected_run
    run-values ps va a po r =
        rw (L.checked (served_all E t₀ ps) a (length r.requests) r.values (good-ps ps va) po) (go (eqb (length r.values) (length r.requests)))
      where
        t : T
        t = served_all E t₀ ps

        after : Bool → Outcome T
        after c = cond (eqb (cond c no_refusal wrong_length) 0) (run_from E t a r.requests r.values) (ended_by (cond c no_refusal wrong_length) t a r.values)

        go : (c : Bool)
            → ((after c).values ≡ cond c (expected_from E expected a.requests ps r.requests r.values) r.values) × Neither20Nor21 (after c).answer.refusal
        go true = (run_from-values a ps va r.requests r.values, run_from-meets-neither t a r.requests r.values)
        go false = (refl, (λ e. omega arith, λ e. omega arith))

    pub runs-values : (rs : List (Run Q)) (ps : List Q) → Each Valid ps → (a : Account) → Possible s a
        → (values_of (outcomes E (from ps a) rs) ≡ expected_all E expected a.requests ps rs) × Never20Or21 (outcomes E (from ps a) rs)
    runs-values [] ps va a po = (refl, tt)
    runs-values (r ∷ rs) ps va a po =
        let t : T = served_all E t₀ ps in
        let ts : List Q = taken_run E a.requests r in
        let a' : Account = (state_after E t a ts).account in
        let next : left_by (outcome_of E (from ps a) r) ≡ from (ps ++ ts) a'
        = run-state t a r (good-ps ps va) po ∙ ap (λ (z : T). record { tables = z; account = a' }) (sym (served-append E t₀ ps ts)) in
        let here = run-values ps va a po r in
        let later = runs-values rs (ps ++ ts) (valid-append Valid ps ts va (run-valid a.requests r)) a' (run-possible t a ts po) in
        let w : values_of (outcomes E (left_by (outcome_of E (from ps a) r)) rs) ≡ expected_all E expected (a.requests + length ts) (ps ++ ts) rs
        = ap (λ z. values_of (outcomes E z rs)) next ∙ later.0 in
        (λ i. here.0 i ∷ w i, (here.1.0, here.1.1, rw next later.1))
