-- A completion with its request, and what an entry costs at most.
use Prim.Native.Nat.{ℕ, ◌≤◌}
use mathlib.Core.Path.{◌≡◌, refl}
use mathlib.Core.Bool.{Bool, true, false}
use mathlib.Core.List.{List, [], ◌∷◌}
use native.Mathlib.Omega.{arith}
use Rattle.protocol_types.specs.Board.{price_limit, Fits, block_of}
use Rattle.protocol.specs.Accounts.{cycles}
use Rattle.protocol.specs.Rival.{Rival, shared, completion_by, completion_cycles, cost, completion_refusal, refusal}
use Rattle.protocol_types.specs.declared.Setup.{Setup}
use Rattle.protocol_types.specs.declared.Request.{Request}
use Rattle.protocol_types.specs.declared.Operation.{Operation}
use Rattle.protocol_types.specs.declared.Operation.TheVariants.{Read, Write, Clear}
use Rattle.protocol_types.specs.declared.Entry.{Entry}
use Rattle.protocol_types.specs.declared.Entry.TheVariants.{Fetch, WriteBack, Drop, Complete, CompleteByBroadcast}
use Rattle.protocol_types.proofs.Laws.{choice}
use Rattle.rival_copies.specs.Copies.{completion}

-- ---- a completion

module _ (s : Setup) (r : Rival) (q : Request) where
  pub completion-refusal-is : (b : Bool) → completion_refusal s r q b ≡ refusal s r (q ∷ []) (completion b)
  completion-refusal-is true = refl
  completion-refusal-is false = refl

  pub completion-cost-is : (b : Bool) → completion_cycles s r q b ≡ cycles (cost s r (q ∷ []) (completion b))
  completion-cost-is true = omega arith
  completion-cost-is false = omega arith

-- ---- no entry costs more than the highest price

cheap-by : (s : Setup) (r : Rival) (i : ℕ) (o : Operation) (b : Bool) → completion_by s r i o b ≤ 1
cheap-by s r i (Read v) b = omega arith
cheap-by s r i (Write v x) b =
    choice (λ z. z ≤ 1) b (λ _. omega arith) (λ _. choice (λ z. z ≤ 1) (shared s r i (block_of s v)) (λ _. omega arith) (λ _. omega arith))
cheap-by s r i Clear b = omega arith

pub cheap-completion : (s : Setup) (r : Rival) (q : Request) (b : Bool) → completion_cycles s r q b ≤ 1
unfolding completion_cycles
cheap-completion s r q b = cheap-by s r q.processor q.operation b

pub cheap : (s : Setup) → Fits s → (r : Rival) (qs : List Request) (e : Entry) → cycles (cost s r qs e) ≤ price_limit
cheap s f r qs (Fetch i b) = omega (arith, f.few-fetch)
cheap s f r qs (WriteBack i b) = omega (arith, f.few-fetch, f.write-back-le-fetch)
cheap s f r qs (Drop i b) = omega arith
cheap s f r [] Complete = omega arith
cheap s f r (q ∷ qs) Complete = omega (arith, cheap-completion s r q false)
cheap s f r [] CompleteByBroadcast = omega arith
cheap s f r (q ∷ qs) CompleteByBroadcast = omega (arith, cheap-completion s r q true)
