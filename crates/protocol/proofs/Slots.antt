-- Counters and block numbers slot by slot, after each part of a step, of tables of the right lengths, sound or not.
use Prim.Native.Nat.{ℕ, ◌-◌, ◌<◌}
use mathlib.Core.Path.{◌≡◌, refl, ap, ◌∙◌}
use mathlib.Core.Logic.{◌≢◌}
use mathlib.Core.Bool.{true}
use native.Mathlib.Omega.{arith}
use lib.Dec.{ltb, eqb}
use borrow.Author.Tests.{eqb-true}
use Rattle.protocol_types.specs.Lists.{at}
use Rattle.protocol_types.specs.Board.{Fits, slots, slot, fetch_price}
use Rattle.protocol.specs.Tables.{Tables, Sized, counter, block, holds_at, holds, marked}
use Rattle.protocol.specs.Rules.{written_back, emptied, filled, saved, evicted, owner, released, fetched, obtained, charged}
use Rattle.protocol_types.specs.declared.Setup.{Setup}
use Rattle.protocol_types.specs.declared.Block.{Block}
use Rattle.protocol_types.proofs.Laws.{choice, agree, at_set_other, at-set-zero}
use Rattle.protocol_types.proofs.Board.{block-path, slot_lt}
use Rattle.protocol.proofs.Holding.{true-holds_at}
use Rattle.protocol.proofs.Lengths.{block-stored, counter-stored, sized-evicted, sized-released}

pub released-counters : (s : Setup) (t : Tables) (b : Block) → (released s t b).counters ≡ t.counters
unfolding released written_back
released-counters s t b = agree (λ (z : Tables). z.counters) (ltb (owner s t b) s.processors) {x = written_back s t (slot s (owner s t b) b)} {y = t} refl

pub released-blocks : (s : Setup) (t : Tables) (b : Block) → (released s t b).blocks ≡ t.blocks
unfolding released written_back
released-blocks s t b = agree (λ (z : Tables). z.blocks) (ltb (owner s t b) s.processors) {x = written_back s t (slot s (owner s t b) b)} {y = t} refl

pub evicted-counter : (s : Setup) (t : Tables) (k m : ℕ) → m ≢ k → counter (evicted s t k) m ≡ counter t m
unfolding evicted emptied saved written_back
evicted-counter s t k m d =
    at_set_other (saved s t k).counters k 0 m d
    ∙ ap (λ l. at l m) (agree (λ (z : Tables). z.counters) (marked t k) {x = written_back s t k} {y = t} refl)

pub evicted-block : (s : Setup) (t : Tables) (k m : ℕ) → m ≢ k → (block (evicted s t k) m).0 ≡ (block t m).0
unfolding evicted emptied saved written_back
evicted-block s t k m d =
    at_set_other (saved s t k).blocks k 0 m d
    ∙ ap (λ l. at l m) (agree (λ (z : Tables). z.blocks) (marked t k) {x = written_back s t k} {y = t} refl)

pub evicted-zero : (s : Setup) (t : Tables) (k : ℕ) → counter (evicted s t k) k ≡ 0
unfolding evicted emptied
evicted-zero s t k = at-set-zero (saved s t k).counters k

-- the engine's slots after a fetch into k
module _ (s : Setup) (t : Tables) (z : Sized s t) (k : ℕ) (b : Block) (h : k < slots s) where
  lengths₁ : Sized s (released s (evicted s t k) b)
  lengths₁ = sized-released s (evicted s t k) (sized-evicted s t z k) b

  pub refetched-counter-same : counter (fetched s (evicted s t k) k b) k ≡ fetch_price s
  unfolding fetched filled
  refetched-counter-same = counter-stored s (released s (evicted s t k) b) lengths₁ k (fetch_price s) h

  pub refetched-block-same : (block (fetched s (evicted s t k) k b) k).0 ≡ b.0
  unfolding fetched filled
  refetched-block-same = block-stored s (released s (evicted s t k) b) lengths₁ k b.0 h

  pub refetched-counter : (m : ℕ) → m ≢ k → counter (fetched s (evicted s t k) k b) m ≡ counter t m
  unfolding fetched filled
  refetched-counter m d =
      at_set_other (released s (evicted s t k) b).counters k (fetch_price s) m d
      ∙ ap (λ l. at l m) (released-counters s (evicted s t k) b) ∙ evicted-counter s t k m d

  pub refetched-block : (m : ℕ) → m ≢ k → (block (fetched s (evicted s t k) k b) m).0 ≡ (block t m).0
  unfolding fetched filled
  refetched-block m d =
      at_set_other (released s (evicted s t k) b).blocks k b.0 m d
      ∙ ap (λ l. at l m) (released-blocks s (evicted s t k) b) ∙ evicted-block s t k m d

-- the slots after a counter falls
module _ (s : Setup) (t : Tables) (z : Sized s t) (k : ℕ) (h : k < slots s) where
  pub charged-counter-same : counter (charged s t k) k ≡ counter t k - 1
  unfolding charged emptied
  charged-counter-same =
      choice (λ z. counter z k ≡ counter t k - 1) (eqb (counter t k) 1)
      (λ e. counter-stored s t z k 0 h ∙ omega (arith, eqb-true (counter t k) 1 e))
      (λ e. counter-stored s t z k (counter t k - 1) h)

  pub charged-counter : (m : ℕ) → m ≢ k → counter (charged s t k) m ≡ counter t m
  unfolding charged emptied
  charged-counter m d =
      choice (λ z. counter z m ≡ counter t m) (eqb (counter t k) 1)
      (λ e. at_set_other t.counters k 0 m d) (λ e. at_set_other t.counters k (counter t k - 1) m d)

  pub charged-block-same : 0 < counter t k - 1 → (block (charged s t k) k).0 ≡ (block t k).0
  unfolding charged emptied
  charged-block-same l =
      choice (λ z. (block z k).0 ≡ (block t k).0) (eqb (counter t k) 1)
      (λ e. absurd (omega (arith, l, eqb-true (counter t k) 1 e))) (λ e. refl)

  pub charged-block : (m : ℕ) → m ≢ k → (block (charged s t k) m).0 ≡ (block t m).0
  unfolding charged emptied
  charged-block m d =
      choice (λ z. (block z m).0 ≡ (block t m).0) (eqb (counter t k) 1) (λ e. at_set_other t.blocks k 0 m d) (λ e. refl)

-- a processor holds the block that it has obtained
pub obtained-holds : (s : Setup) → Fits s → (t : Tables) → Sized s t → (i : ℕ) (b : Block) → i < s.processors → holds s (obtained s t i b) i b ≡ true
unfolding obtained holds
obtained-holds s ok t z i b hi =
    let k = slot s i b in
    let hk = slot_lt s ok i b hi in
    choice (λ x. holds_at x k b ≡ true) (holds_at t k b) (λ e. e)
    (λ e. true-holds_at (fetched s (evicted s t k) k b) k b (omega (arith, refetched-counter-same s t z k b hk, ok.some-fetch)) (block-path (refetched-block-same s t z k b hk)))
