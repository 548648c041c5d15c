-- Laws of the conditions of a request: what they let through, and that it is let through.
use Prim.Native.Nat.{ℕ, ◌<◌}
use mathlib.Core.Path.{◌≡◌, refl}
use mathlib.Core.Bool.{cond}
use native.Mathlib.Omega.{arith}
use lib.Dec.{ltb}
use borrow.Author.Tests.{ltb-true, lt-ltb}
use Rattle.protocol_types.specs.Refusals.{no_refusal, no_such_processor, no_such_variable, account_full}
use Rattle.protocol_types.specs.Board.{variables}
use Rattle.protocol_types.specs.Conditions.{Named, Valid, request_limit, variable_refusal, named_refusal, request_refusal}
use Rattle.protocol_types.specs.declared.Setup.{Setup}
use Rattle.protocol_types.specs.declared.Variable.{Variable}
use Rattle.protocol_types.specs.declared.Request.{Request}
use Rattle.protocol_types.specs.declared.Operation.{Operation}
use Rattle.protocol_types.specs.declared.Operation.TheVariants.{Read, Write, Clear}
use Rattle.protocol_types.proofs.Laws.{choice, chosen-zero}

-- ---- 3, 4 and 22

module _ (s : Setup) (v : Variable) (n : ℕ) where
  variable-passed : variable_refusal s v n ≡ 0 → (v.0 < variables s) × (n ≡ 0)
  unfolding variable_refusal
  variable-passed e = let e' = chosen-zero (ltb v.0 (variables s)) n no_such_variable (omega arith) e in (ltb-true _ _ e'.0, e'.1)

  pub variable-passes : v.0 < variables s → variable_refusal s v n ≡ n
  unfolding variable_refusal
  variable-passes h = rw (lt-ltb _ _ h)

  variable-choice : (Q : ℕ → Type 0) → Q n → Q no_such_variable → Q (variable_refusal s v n)
  unfolding variable_refusal
  variable-choice Q p q = choice Q (ltb v.0 (variables s)) (λ e. p) (λ e. q)

-- what 4 lets through, that it is let through, and a property of n and of 4
pub named-passed : (s : Setup) (o : Operation) (n : ℕ) → named_refusal s o n ≡ 0 → Named s o × (n ≡ 0)
named-passed s (Read v) n e = variable-passed s v n e
named-passed s (Write v x) n e = variable-passed s v n e
named-passed s Clear n e = (tt, e)

pub named-passes : (s : Setup) (o : Operation) (n : ℕ) → Named s o → named_refusal s o n ≡ n
named-passes s (Read v) n h = variable-passes s v n h
named-passes s (Write v x) n h = variable-passes s v n h
named-passes s Clear n h = refl

pub named-choice : (Q : ℕ → Type 0) (s : Setup) (o : Operation) (n : ℕ) → Q n → Q no_such_variable → Q (named_refusal s o n)
named-choice Q s (Read v) n p q = variable-choice s v n Q p q
named-choice Q s (Write v x) n p q = variable-choice s v n Q p q
named-choice Q s Clear n p q = p

-- a request that 3 and 4 let through, n being the number after them
pub valid-passed : (s : Setup) (q : Request) (n : ℕ) → cond (ltb q.processor s.processors) (named_refusal s q.operation n) no_such_processor ≡ 0
    → Valid s q × (n ≡ 0)
valid-passed s q n e =
    let e₁ = chosen-zero (ltb q.processor s.processors) (named_refusal s q.operation n) no_such_processor (omega arith) e in
    let e₂ = named-passed s q.operation n e₁.1 in
    (record { processor = ltb-true _ _ e₁.0; operation = e₂.0 }, e₂.1)

-- a request that 3, 4 and 22 let through, where n were taken before it
pub request-passed : (s : Setup) (n : ℕ) (q : Request) → request_refusal s n q ≡ no_refusal → Valid s q × (n < request_limit)
unfolding request_refusal
request-passed s n q e =
    let v = valid-passed s q (cond (ltb n request_limit) no_refusal account_full) e in
    (v.0, ltb-true _ _ (chosen-zero (ltb n request_limit) no_refusal account_full (omega arith) v.1).0)

-- ---- what a list of requests has outside

abbrev pub no-request : Request
no-request = record { processor = 0; operation = Read (record { 0 = 0 }) }
