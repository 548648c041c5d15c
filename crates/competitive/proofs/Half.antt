-- Theorem 4.2 of source document 000, over one list of requests from fresh tables.
use Prim.Native.Nat.{ℕ, zero, suc, ◌+◌, ◌≤◌}
use mathlib.Core.Path.{◌≡◌, refl, ap}
use mathlib.Core.Bool.{Bool, true, false, cond}
use mathlib.Core.List.{List, [], ◌∷◌}
use native.Mathlib.Omega.{arith}
use Rattle.protocol_types.specs.Board.{Fits, slots, line_slot, slot, block_of, fetch_price, write_back_price}
use Rattle.protocol.specs.Tables.{Tables, fresh, holds, sharing, marked}
use Rattle.protocol.specs.Rules.{save_cycles, obtained, fetch_cycles, write_back_cycles, update_cycles, cleared, clear_cycles}
use Rattle.protocol.specs.Requests.{served, bill_by, bill}
use Rattle.protocol.specs.Accounts.{fetch_and_update}
use Rattle.protocol.specs.Engines.{spent}
use Rattle.protocol.specs.Runs.{engine}
use Rattle.protocol.specs.Rival.{no_copies, Legal, costs}
use Rattle.competitive.specs.Claims.{SplitBill}
use Rattle.protocol_types.specs.declared.Setup.{Setup}
use Rattle.protocol_types.specs.declared.Block.{Block}
use Rattle.protocol_types.specs.declared.Request.{Request}
use Rattle.protocol_types.specs.declared.Operation.{Operation}
use Rattle.protocol_types.specs.declared.Operation.TheVariants.{Read, Write, Clear}
use Rattle.protocol_types.specs.declared.Entry.{Entry}
use Rattle.protocol_types.proofs.Laws.{both, at-zeros}
use Rattle.protocol.proofs.Rival.{sized-no_copies}
use Rattle.competitive.proofs.Sums.{sum-zero}
use Rattle.competitive.proofs.Fresh.{sound-fresh}
use Rattle.competitive.proofs.Potential.{Potential, debt, load, fetch-potential, update-potential}
use Rattle.competitive.proofs.Bound.{obtained_weight, written_weight, cleared_weight, weight_by, weight, weights, total, bound}

-- ---- the start: empty caches on both sides

pub total-fresh : (s : Setup) (F W U : ℕ) (ψ : ℕ → ℕ → ℕ → ℕ → ℕ) → Potential (fetch_price s) F W U ψ → total ψ s (fresh s) (no_copies s) ≡ 0
unfolding total fresh no_copies
total-fresh s F W U ψ P = sum-zero (slots s) _ (λ k h. rw (at-zeros (slots s) k) P.nil)

-- ---- the weights are the bill's

pick_same : (c : Bool) → ◌≡◌ {A = ℕ} (cond c 0 0) 0
pick_same true = refl
pick_same false = refl

module _ (s : Setup) (t : Tables) (i : ℕ) (b : Block) where
  obtained-fetch : obtained_weight (fetch_price s) 0 s t i b ≡ fetch_cycles s t i b
  unfolding obtained_weight fetch_cycles
  obtained-fetch = both ◌≡◌ (holds s t i b) (λ e. refl) (λ e. rw (pick_same (marked t (slot s i b))) (omega arith))

  obtained-back : obtained_weight 0 (write_back_price s) s t i b ≡ write_back_cycles s t i b
  unfolding obtained_weight write_back_cycles save_cycles
  obtained-back = both ◌≡◌ (holds s t i b) (λ e. refl) (λ e. omega arith)

  written-nothing : written_weight 0 s t i b ≡ 0
  unfolding written_weight
  written-nothing = pick_same (sharing s t i b)

  written-update : written_weight 1 s t i b ≡ update_cycles s t i b
  unfolding written_weight update_cycles
  written-update = refl

cleared-nothing : (s : Setup) (t : Tables) (i n : ℕ) → cleared_weight 0 s t i n ≡ 0
cleared-nothing s t i zero = refl
cleared-nothing s t i (suc n) = omega (arith, cleared-nothing s t i n, pick_same (marked (cleared s t i n) (line_slot s i n)))

cleared-back : (s : Setup) (t : Tables) (i n : ℕ) → cleared_weight (write_back_price s) s t i n ≡ clear_cycles s t i n
unfolding save_cycles
cleared-back s t i zero = refl
cleared-back s t i (suc n) = ap (λ z. z + cond (marked (cleared s t i n) (line_slot s i n)) (write_back_price s) 0) (cleared-back s t i n)

fetch-weight : (s : Setup) (t : Tables) (i : ℕ) (o : Operation) → weight_by (fetch_price s) 0 0 s t i o ≡ (bill_by s t i o).fetch
fetch-weight s t i (Read v) = obtained-fetch s t i (block_of s v)
fetch-weight s t i (Write v x) =
    let b : Block = block_of s v in
    omega (arith, obtained-fetch s t i b, written-nothing s (obtained s t i b) i b)
fetch-weight s t i Clear = cleared-nothing s t i s.lines

update-weight : (s : Setup) (t : Tables) (i : ℕ) (o : Operation)
    → weight_by 0 (write_back_price s) 1 s t i o ≡ (bill_by s t i o).write_back + (bill_by s t i o).update
update-weight s t i (Read v) = omega (arith, obtained-back s t i (block_of s v))
update-weight s t i (Write v x) =
    let b : Block = block_of s v in
    omega (arith, obtained-back s t i b, written-update s (obtained s t i b) i b)
update-weight s t i Clear = omega (arith, cleared-back s t i s.lines)

fetch-weights : (s : Setup) (t : Tables) (qs : List Request) → weights (fetch_price s) 0 0 s t qs ≡ (spent (engine s) t qs).fetch
unfolding weight bill
fetch-weights s t [] = refl
fetch-weights s t (q ∷ qs) = omega (arith, fetch-weight s t q.processor q.operation, fetch-weights s (served s t q) qs)

update-weights : (s : Setup) (t : Tables) (qs : List Request) → weights 0 (write_back_price s) 1 s t qs ≡ (spent (engine s) t qs).write_back + (spent (engine s) t qs).update
unfolding weight bill
update-weights s t [] = omega arith
update-weights s t (q ∷ qs) = omega (arith, update-weight s t q.processor q.operation, update-weights s (served s t q) qs)

-- ---- theorem 4.2

module _ (s : Setup) (ok : Fits s) (qs : List Request) (es : List Entry) (legal : Legal s (no_copies s) qs es) where
  fetch-half : (spent (engine s) (fresh s) qs).fetch ≤ fetch_and_update (costs s (no_copies s) qs es)
  fetch-half =
      let f = fetch_price s in
      let P = fetch-potential f in
      omega (
        arith,
        fetch-weights s (fresh s) qs,
        total-fresh s f 0 0 (debt f) P,
        bound s ok f 0 0 (debt f) P es (fresh s) (no_copies s) qs (sound-fresh s) (sized-no_copies s) legal,
      )

  update-half : (spent (engine s) (fresh s) qs).update + (spent (engine s) (fresh s) qs).write_back ≤ fetch_and_update (costs s (no_copies s) qs es)
  update-half =
      let P = update-potential (fetch_price s) (write_back_price s) ok.write-back-le-fetch in
      omega (
        arith,
        update-weights s (fresh s) qs,
        total-fresh s 0 (write_back_price s) 1 (load (fetch_price s)) P,
        bound s ok 0 (write_back_price s) 1 (load (fetch_price s)) P es (fresh s) (no_copies s) qs (sound-fresh s) (sized-no_copies s) legal,
      )

  pub split-bill : SplitBill (spent (engine s) (fresh s) qs) (costs s (no_copies s) qs es)
  split-bill = record { fetches = omega (arith, fetch-half); updates = omega (arith, update-half) }
