-- Serving a request keeps the tables usable: each step of the rules stores only numbers of blocks below M, or 0 (and so does emptying a line, `Inside`),
-- and a block in its proper line alone (`Proper`).
-- Assumes nothing.
use Prim.Native.Nat.{ℕ, ◌<◌}
use lib.Dec.{ltb, eqb}
use Rattle.protocol_types.specs.Board.{Fits, slot, block_of, offset_of}
use Rattle.protocol.specs.Tables.{Tables, Sized, counter, holds, sharing}
use Rattle.protocol.specs.Rules.{written_back, filled, evicted, owner, released, fetched, obtained, payer, written_alone, broadcast, charged, written}
use Rattle.protocol_types.specs.Conditions.{Named, Valid}
use Rattle.protocol.specs.Requests.{served_by, served}
use Rattle.protocol_types.specs.declared.Setup.{Setup}
use Rattle.protocol_types.specs.declared.Block.{Block}
use Rattle.protocol_types.specs.declared.Request.{Request}
use Rattle.protocol_types.specs.declared.Operation.{Operation}
use Rattle.protocol_types.specs.declared.Operation.TheVariants.{Read, Write, Clear}
use Rattle.protocol_types.proofs.Laws.{choice, at_set}
use Rattle.protocol_types.proofs.Board.{block-lt}
use Rattle.protocol.proofs.Lengths.{sized-obtained, sized-served}
use Rattle.protocol.proofs.Slots.{obtained-holds}
use Rattle.engine_masks.specs.Copies.{Proper}
use Rattle.engine_masks.proofs.Proper.{proper-obtained, proper-written, proper-cleared}
use Rattle.engine_evictions.proofs.Inside.{Inside, inside-emptied, inside-evicted, inside-cleared}
use Rattle.engine.specs.Usable.{Usable}

module _ (s : Setup) (f : Fits s) where
  inside-released : (t : Tables) (b : Block) → Inside s t → Inside s (released s t b)
  unfolding released written_back
  inside-released t b h = choice (Inside s) (ltb (owner s t b) s.processors) (λ e. h) (λ e. h)

  inside-filled : (t : Tables) (k : ℕ) (b : Block) → b.0 < s.blocks → Inside s t → Inside s (filled s t k b)
  unfolding filled
  inside-filled t k b l h j = at_set (λ x. x < s.blocks) t.blocks k b.0 j l (h j)

  inside-obtained : (t : Tables) (i : ℕ) (b : Block) → b.0 < s.blocks → Inside s t → Inside s (obtained s t i b)
  unfolding obtained fetched
  inside-obtained t i b l h =
      let k = slot s i b in
      let t' = evicted s t k in
      choice (Inside s) (holds s t i b) (λ e. h)
      (λ e. inside-filled (released s t' b) k b l (inside-released t' b (inside-evicted s f t k h)))

  inside-charged : (t : Tables) (k : ℕ) → Inside s t → Inside s (charged s t k)
  unfolding charged
  inside-charged t k h = choice (Inside s) (eqb (counter t k) 1) (λ e. inside-emptied s f t k h) (λ e. h)

  inside-written : (t : Tables) (i : ℕ) (b : Block) (o x : ℕ) → Inside s t → Inside s (written s t i b o x)
  unfolding written written_alone broadcast
  inside-written t i b o x h =
      choice (Inside s) (sharing s t i b)
      (λ e. inside-charged (broadcast s t (slot s i b) b o x) (slot s (payer s t i b) b) h) (λ e. h)

  inside-served-by : (t : Tables) (i : ℕ) (o : Operation) → Named s o → Inside s t → Inside s (served_by s t i o)
  inside-served-by t i (Read v) l h = inside-obtained t i (block_of s v) (block-lt s f v l) h
  inside-served-by t i (Write v x) l h =
      inside-written (obtained s t i (block_of s v)) i (block_of s v) (offset_of s v) x (inside-obtained t i (block_of s v) (block-lt s f v l) h)
  inside-served-by t i Clear l h = inside-cleared s f t i s.lines h

  proper-served-by : (t : Tables) → Sized s t → Proper s t → (i : ℕ) → i < s.processors → (o : Operation) → Proper s (served_by s t i o)
  proper-served-by t z h i hi (Read v) = proper-obtained s f t z h i (block_of s v) hi
  proper-served-by t z h i hi (Write v x) =
      let b = block_of s v in
      proper-written s f (obtained s t i b) (sized-obtained s t z i b) (proper-obtained s f t z h i b hi) i b (offset_of s v) x hi (obtained-holds s f t z i b hi)
  proper-served-by t z h i hi Clear = proper-cleared s f t i s.lines h

  pub usable-served : (t : Tables) (q : Request) → Valid s q → Usable s t → Usable s (served s t q)
  unfolding served
  usable-served t q v u = record {
    lengths = sized-served s t u.lengths q;
    named = inside-served-by t q.processor q.operation v.operation u.named;
    proper = proper-served-by t u.lengths u.proper q.processor v.processor q.operation;
  }
