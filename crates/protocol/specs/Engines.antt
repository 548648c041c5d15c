-- A run and a list of runs of any engine: T are its tables, Q its requests (document 01, "What one request does" and "The claim of demand 3").
use Rattle.std.specs.Prelude.{ℕ, suc, ◌+◌, ◌≢◌, cond, List, [], ◌∷◌, ◌++◌, length, eqb}
use Rattle.protocol_types.specs.Lists.{tail}
use Rattle.protocol_types.specs.Refusals.{no_refusal, unsound_tables, impossible_account}
use Rattle.protocol.specs.Accounts.{nothing, plus, entered}
use Rattle.protocol_types.specs.declared.Bill.{Bill}
use Rattle.protocol_types.specs.declared.Account.{Account}
use Rattle.protocol_types.specs.Answers.{RunAnswer}

-- what the rules of an engine say
pub record Engine (T Q : Type 0) : Type 0 where
  -- what refuses a run of n requests before its first one
  pub run_refusal : T → Account → ℕ → List ℕ → ℕ
  -- what refuses a request where n have been taken
  pub refusal : ℕ → Q → ℕ
  -- the tables after a request, the value that it supplies or writes, and the cycles charged
  pub served : T → Q → T
  pub value : T → Q → ℕ
  pub bill : T → Q → Bill

-- ---- a run

-- its answer: n requests taken, refusal r at place k
abbrev pub answered : ℕ → ℕ → ℕ → RunAnswer
answered n r k = record { taken = n; refusal = r; place = k }

-- what a run answers and leaves
pub record Outcome (T : Type 0) : Type 0 where
  pub answer : RunAnswer
  pub tables : T
  pub account : Account
  pub values : List ℕ

-- it ends here: refused by n, or by 0 at the list's end. "with no refusal … the place is 0"
abbrev pub ended_by : {T : Type 0} → ℕ → T → Account → List ℕ → Outcome T
ended_by n t a vs = record { answer = answered 0 n 0; tables = t; account = a; values = vs }

-- one request more was taken before, with value x
abbrev pub onward : {T : Type 0} → ℕ → Outcome T → Outcome T
onward x o = record {
  answer = answered (suc o.answer.taken) o.answer.refusal (cond (eqb o.answer.refusal no_refusal) 0 (suc o.answer.place));
  tables = o.tables;
  account = o.account;
  values = x ∷ o.values;
}

-- request after request, to the first refused one; positions from the stop on are untouched
abbrev pub run_from : {T Q : Type 0} → Engine T Q → T → Account → List Q → List ℕ → Outcome T
run_from E t a [] vs = ended_by no_refusal t a vs
run_from E t a (q ∷ qs) vs =
    cond (eqb (E.refusal a.requests q) no_refusal)
    (onward (E.value t q) (run_from E (E.served t q) (entered a 1 (E.bill t q)) qs (tail vs)))
    (ended_by (E.refusal a.requests q) t a vs)

unfoldable pub run : {T Q : Type 0} → Engine T Q → T → Account → List Q → List ℕ → Outcome T
run E t a qs vs =
    cond (eqb (E.run_refusal t a (length qs) vs) no_refusal) (run_from E t a qs vs) (ended_by (E.run_refusal t a (length qs) vs) t a vs)

-- ---- a list of runs: "each meets the tables and account just as the last one left them"

-- what a run is lent besides the tables and the account
pub record Run (Q : Type 0) : Type 0 where
  pub requests : List Q
  pub values : List ℕ

-- the tables and the account between two runs
pub record State (T : Type 0) : Type 0 where
  pub tables : T
  pub account : Account

abbrev pub outcome_of : {T Q : Type 0} → Engine T Q → State T → Run Q → Outcome T
outcome_of E w r = run E w.tables w.account r.requests r.values

abbrev pub left_by : {T : Type 0} → Outcome T → State T
left_by o = record { tables = o.tables; account = o.account }

-- what each run of the list answers and leaves
abbrev pub outcomes : {T Q : Type 0} → Engine T Q → State T → List (Run Q) → List (Outcome T)
outcomes E w [] = []
outcomes E w (r ∷ rs) = outcome_of E w r ∷ outcomes E (left_by (outcome_of E w r)) rs

-- what the whole list leaves
abbrev pub runs : {T Q : Type 0} → Engine T Q → State T → List (Run Q) → State T
runs E w [] = w
runs E w (r ∷ rs) = runs E (left_by (outcome_of E w r)) rs

-- ---- the requests taken ("The claim of demand 3")

-- of one list, where n requests were taken before: those before the first refused one, or all if none is
abbrev pub taken_from : {T Q : Type 0} → Engine T Q → ℕ → List Q → List Q
taken_from E n [] = []
taken_from E n (q ∷ qs) = cond (eqb (E.refusal n q) no_refusal) (q ∷ taken_from E (n + 1) qs) []

-- "A run refused by 2 takes none."
unfoldable pub taken_run : {T Q : Type 0} → Engine T Q → ℕ → Run Q → List Q
taken_run E n r = cond (eqb (length r.values) (length r.requests)) (taken_from E n r.requests) []

-- run after run, counted as one list
abbrev pub taken_all : {T Q : Type 0} → Engine T Q → ℕ → List (Run Q) → List Q
taken_all E n [] = []
taken_all E n (r ∷ rs) = taken_run E n r ++ taken_all E (n + length (taken_run E n r)) rs

-- ---- what the rules charge for a list of requests, in order

abbrev pub served_all : {T Q : Type 0} → Engine T Q → T → List Q → T
served_all E t [] = t
served_all E t (q ∷ qs) = served_all E (E.served t q) qs

abbrev pub spent : {T Q : Type 0} → Engine T Q → T → List Q → Bill
spent E t [] = nothing
spent E t (q ∷ qs) = plus (E.bill t q) (spent E (E.served t q) qs)

-- ---- the values of a list of runs, where `expected ps q` is what request q supplies or writes after the requests ps

-- of one list of requests, where n requests count and ps were taken before; from a refused one on as they were lent
abbrev pub expected_from : {T Q : Type 0} → Engine T Q → (List Q → Q → ℕ) → ℕ → List Q → List Q → List ℕ → List ℕ
expected_from E expected n ps [] vs = vs
expected_from E expected n ps (q ∷ qs) vs =
    cond (eqb (E.refusal n q) no_refusal) (expected ps q ∷ expected_from E expected (n + 1) (ps ++ q ∷ []) qs (tail vs)) vs

-- of a run: as lent if 2 refuses it
unfoldable pub expected_run : {T Q : Type 0} → Engine T Q → (List Q → Q → ℕ) → ℕ → List Q → Run Q → List ℕ
expected_run E expected n ps r =
    cond (eqb (length r.values) (length r.requests)) (expected_from E expected n ps r.requests r.values) r.values

-- of each run of a list
abbrev pub expected_all : {T Q : Type 0} → Engine T Q → (List Q → Q → ℕ) → ℕ → List Q → List (Run Q) → List (List ℕ)
expected_all E expected n ps [] = []
expected_all E expected n ps (r ∷ rs) =
    expected_run E expected n ps r ∷ expected_all E expected (n + length (taken_run E n r)) (ps ++ taken_run E n r) rs

-- the values that outcomes leave
abbrev pub values_of : {T : Type 0} → List (Outcome T) → List (List ℕ)
values_of [] = []
values_of (o ∷ os) = o.values ∷ values_of os

-- none of the outcomes is refused by 20 or 21
abbrev pub Never20Or21 : {T : Type 0} → List (Outcome T) → Type 0
Never20Or21 [] = Unit {0}
Never20Or21 (o ∷ os) = (o.answer.refusal ≢ unsound_tables) × (o.answer.refusal ≢ impossible_account) × Never20Or21 os
