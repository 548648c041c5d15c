-- Each rule keeps the tables' lengths, sound or not.
use Prim.Native.Nat.{ℕ, zero, suc, ◌-◌, ◌*◌, ◌<◌}
use mathlib.Core.Path.{◌≡◌, refl, ◌∙◌}
use native.Mathlib.Omega.{arith}
use lib.ListN.{length, set, length-set, length-replicate}
use lib.Seq.{length-sets}
use lib.Dec.{ltb, eqb}
use Rattle.protocol_types.specs.Lists.{at}
use Rattle.protocol_types.specs.Board.{variables, slots, line_slot, slot, word_index, block_of, offset_of}
use Rattle.protocol.specs.Tables.{Tables, tables, Sized, fresh, counter, holds, sharing, marked}
use Rattle.protocol.specs.Rules.{written_back, emptied, filled, saved, evicted, owner, released, fetched, obtained, written_alone, updated_copies, broadcast, charged, written, cleared}
use Rattle.protocol.specs.Requests.{served_by, served}
use Rattle.protocol_types.specs.declared.Setup.{Setup}
use Rattle.protocol_types.specs.declared.Block.{Block}
use Rattle.protocol_types.specs.declared.Request.{Request}
use Rattle.protocol_types.specs.declared.Operation.{Operation}
use Rattle.protocol_types.specs.declared.Operation.TheVariants.{Read, Write, Clear}
use Rattle.protocol_types.proofs.Laws.{choice, at_set_same}

pub sized_fresh : (s : Setup) → Sized s (fresh s)
unfolding fresh
sized_fresh s = record {
  blocks = length-replicate (slots s) 0;
  counters = length-replicate (slots s) 0;
  marks = length-replicate (slots s) 0;
  words = length-replicate (slots s * s.words) 0;
  memory = length-replicate (variables s) 0;
}

pub length-updated_copies : (s : Setup) (t : Tables) (b : Block) (o x n : ℕ) → length (updated_copies s t b o x n) ≡ length t.words
length-updated_copies s t b o x zero = refl
length-updated_copies s t b o x (suc n) =
    choice (λ z. length z ≡ length t.words) (holds s t n b)
    (λ e. length-set (updated_copies s t b o x n) (word_index s (slot s n b) o) x ∙ length-updated_copies s t b o x n)
    (λ e. length-updated_copies s t b o x n)

-- ---- each part of a step

module _ (s : Setup) (t : Tables) (z : Sized s t) where
  -- a slot's index is in range
  pub in-slots : (k : ℕ) → k < slots s → (k < length t.blocks) × (k < length t.counters) × (k < length t.marks)
  in-slots k h = (omega (arith, z.blocks), omega (arith, z.counters), omega (arith, z.marks))

  -- what is stored at a slot is read there
  pub block-stored : (k x : ℕ) → k < slots s → at (set t.blocks k x) k ≡ x
  block-stored k x h = at_set_same t.blocks k x (in-slots k h).0

  pub counter-stored : (k x : ℕ) → k < slots s → at (set t.counters k x) k ≡ x
  counter-stored k x h = at_set_same t.counters k x (in-slots k h).1

  pub mark-stored : (k x : ℕ) → k < slots s → at (set t.marks k x) k ≡ x
  mark-stored k x h = at_set_same t.marks k x (in-slots k h).2

  pub sized-written_back : (k : ℕ) → Sized s (written_back s t k)
  unfolding written_back
  sized-written_back k = record {
    blocks = z.blocks;
    counters = z.counters;
    marks = simp length-set z.marks;
    words = z.words;
    memory = simp length-sets z.memory;
  }

  pub sized-emptied : (k : ℕ) → Sized s (emptied s t k)
  unfolding emptied
  sized-emptied k = record {
    blocks = simp length-set z.blocks;
    counters = simp length-set z.counters;
    marks = simp length-set z.marks;
    words = simp length-sets z.words;
    memory = z.memory;
  }

  pub sized-filled : (k : ℕ) (b : Block) → Sized s (filled s t k b)
  unfolding filled
  sized-filled k b = record {
    blocks = simp length-set z.blocks;
    counters = simp length-set z.counters;
    marks = simp length-set z.marks;
    words = simp length-sets z.words;
    memory = z.memory;
  }

  pub sized-saved : (k : ℕ) → Sized s (saved s t k)
  unfolding saved
  sized-saved k = choice (Sized s) (marked t k) (λ e. sized-written_back k) (λ e. z)

  pub sized-released : (b : Block) → Sized s (released s t b)
  unfolding released
  sized-released b = choice (Sized s) (ltb (owner s t b) s.processors) (λ e. sized-written_back (slot s (owner s t b) b)) (λ e. z)

  pub sized-written_alone : (k o x : ℕ) → Sized s (written_alone s t k o x)
  unfolding written_alone
  sized-written_alone k o x = record {
    blocks = z.blocks;
    counters = simp length-set z.counters;
    marks = simp length-set z.marks;
    words = simp length-set z.words;
    memory = z.memory;
  }

  pub sized-broadcast : (k : ℕ) (b : Block) (o x : ℕ) → Sized s (broadcast s t k b o x)
  unfolding broadcast
  sized-broadcast k b o x = record {
    blocks = z.blocks;
    counters = simp length-set z.counters;
    marks = z.marks;
    words = simp length-updated_copies z.words;
    memory = simp length-set z.memory;
  }

  -- a counter changes
  pub sized-recounted : (k x : ℕ) → Sized s (tables t.blocks (set t.counters k x) t.marks t.words t.memory)
  sized-recounted k x = record {
    blocks = z.blocks;
    counters = simp length-set z.counters;
    marks = z.marks;
    words = z.words;
    memory = z.memory;
  }

  pub sized-charged : (k : ℕ) → Sized s (charged s t k)
  unfolding charged
  sized-charged k = choice (Sized s) (eqb (counter t k) 1) (λ e. sized-emptied k) (λ e. sized-recounted k (counter t k - 1))

-- ---- a step

module _ (s : Setup) (t : Tables) (z : Sized s t) where
  pub sized-evicted : (k : ℕ) → Sized s (evicted s t k)
  unfolding evicted
  sized-evicted k = sized-emptied s (saved s t k) (sized-saved s t z k) k

  pub sized-fetched : (k : ℕ) (b : Block) → Sized s (fetched s t k b)
  unfolding fetched
  sized-fetched k b = sized-filled s (released s t b) (sized-released s t z b) k b

  pub sized-written : (i : ℕ) (b : Block) (o x : ℕ) → Sized s (written s t i b o x)
  unfolding written
  sized-written i b o x =
      choice (Sized s) (sharing s t i b)
      (λ e. search (sized-charged s, sized-broadcast s))
      (λ e. sized-written_alone s t z (slot s i b) o x)

pub sized-obtained : (s : Setup) (t : Tables) → Sized s t → (i : ℕ) (b : Block) → Sized s (obtained s t i b)
unfolding obtained
sized-obtained s t z i b =
    choice (Sized s) (holds s t i b) (λ e. z)
    (λ e. sized-fetched s (evicted s t (slot s i b)) (sized-evicted s t z (slot s i b)) (slot s i b) b)

pub sized-cleared : (s : Setup) (t : Tables) → Sized s t → (i n : ℕ) → Sized s (cleared s t i n)
sized-cleared s t z i zero = z
sized-cleared s t z i (suc n) = sized-evicted s (cleared s t i n) (sized-cleared s t z i n) (line_slot s i n)

pub sized-served_by : (s : Setup) (t : Tables) → Sized s t → (i : ℕ) (o : Operation) → Sized s (served_by s t i o)
sized-served_by s t z i (Read v) = sized-obtained s t z i (block_of s v)
sized-served_by s t z i (Write v x) =
    sized-written s (obtained s t i (block_of s v)) (sized-obtained s t z i (block_of s v)) i (block_of s v) (offset_of s v) x
sized-served_by s t z i Clear = sized-cleared s t z i s.lines

pub sized-served : (s : Setup) (t : Tables) → Sized s t → (q : Request) → Sized s (served s t q)
unfolding served
sized-served s t z q = sized-served_by s t z q.processor q.operation
