-- Rules 1 to 5 and a clear on the tables, and the cycles of each (document 01, "What one request does"; document 02, P6).
use Rattle.std.specs.Prelude.{ℕ, zero, suc, ◌+◌, ◌-◌, ◌&&◌, cond, List, set, ltb, eqb}
use Rattle.std.proofs.lemmas.List.Edits.{sets}
use Rattle.protocol_types.specs.Lists.{zeros, first, another, argmin}
use Rattle.protocol_types.specs.Board.{fetch_price, write_back_price, line_slot, slot, word_index, memory_index}
use Rattle.protocol.specs.Tables.{Tables, tables, counter, block, line_words, memory_words, holds, sharing, line_counter, marked}
use Rattle.protocol_types.specs.declared.Setup.{Setup}
use Rattle.protocol_types.specs.declared.Block.{Block}

-- ---- a line

-- main memory takes the words of slot k, whose mark clears
unfoldable pub written_back : Setup → Tables → ℕ → Tables
written_back s t k =
    tables t.blocks t.counters (set t.marks k 0) t.words (sets t.memory (memory_index s (block t k) 0) (line_words s t k))

-- slot k becomes empty: all 0
unfoldable pub emptied : Setup → Tables → ℕ → Tables
emptied s t k =
    tables (set t.blocks k 0) (set t.counters k 0) (set t.marks k 0) (sets t.words (word_index s k 0) (zeros s.words)) t.memory

-- slot k gets block b: counter f, mark 0 and memory's words
unfoldable pub filled : Setup → Tables → ℕ → Block → Tables
filled s t k b =
    tables (set t.blocks k b.0) (set t.counters k (fetch_price s)) (set t.marks k 0)
    (sets t.words (word_index s k 0) (memory_words s t b)) t.memory

-- ---- rule 1: the block in the way, at slot k, leaves first

-- if marked, it is written back
unfoldable pub saved : Setup → Tables → ℕ → Tables
saved s t k = cond (marked t k) (written_back s t k) t

-- g cycles if marked; if not, it goes for nothing
unfoldable pub save_cycles : Setup → Tables → ℕ → ℕ
save_cycles s t k = cond (marked t k) (write_back_price s) 0

-- the line becomes empty
unfoldable pub evicted : Setup → Tables → ℕ → Tables
evicted s t k = emptied s (saved s t k) k

-- ---- rule 2: block b is fetched into slot k

-- the processor that has b marked; the number of processors if none has
unfoldable pub owner : Setup → Tables → Block → ℕ
owner s t b = first s.processors (λ j. holds s t j b && marked t (slot s j b))

-- memory takes the owner's words and the mark clears; the owner's counter stays
unfoldable pub released : Setup → Tables → Block → Tables
released s t b = cond (ltb (owner s t b) s.processors) (written_back s t (slot s (owner s t b) b)) t

unfoldable pub fetched : Setup → Tables → ℕ → Block → Tables
fetched s t k b = filled s (released s t b) k b

-- ---- rules 1 and 2: on a miss processor i gets block b; on a hit nothing changes

unfoldable pub obtained : Setup → Tables → ℕ → Block → Tables
obtained s t i b = cond (holds s t i b) t (fetched s (evicted s t (slot s i b)) (slot s i b) b)

unfoldable pub fetch_cycles : Setup → Tables → ℕ → Block → ℕ
fetch_cycles s t i b = cond (holds s t i b) 0 (fetch_price s)

unfoldable pub write_back_cycles : Setup → Tables → ℕ → Block → ℕ
write_back_cycles s t i b = cond (holds s t i b) 0 (save_cycles s t (slot s i b))

-- ---- rules 4 and 5: processor i, which holds block b, writes value x at offset o

-- the payer: the other holder with the smallest counter, the lowest processor among equals (document 02, P5);
-- the number of processors if no other cache holds b
unfoldable pub payer : Setup → Tables → ℕ → Block → ℕ
payer s t i b = argmin s.processors (another i (λ j. holds s t j b)) (line_counter s t b)

-- rule 4, no other holder: slot k's counter becomes f, its word changes and it is marked
unfoldable pub written_alone : Setup → Tables → ℕ → ℕ → ℕ → Tables
written_alone s t k o x =
    tables t.blocks (set t.counters k (fetch_price s)) (set t.marks k 1) (set t.words (word_index s k o) x) t.memory

-- the words, with word o of block b changed in the copies of the first n processors
abbrev pub updated_copies : Setup → Tables → Block → ℕ → ℕ → ℕ → List ℕ
updated_copies s t b o x zero = t.words
updated_copies s t b o x (suc n) =
    cond (holds s t n b) (set (updated_copies s t b o x n) (word_index s (slot s n b) o) x) (updated_copies s t b o x n)

-- rule 5, another holder: slot k's counter becomes f, and the word changes in every copy and in memory; marks stay
unfoldable pub broadcast : Setup → Tables → ℕ → Block → ℕ → ℕ → Tables
broadcast s t k b o x =
    tables t.blocks (set t.counters k (fetch_price s)) t.marks (updated_copies s t b o x s.processors)
    (set t.memory (memory_index s b o) x)

-- rule 5: the payer's counter, at slot k, falls by 1; at 0 its line becomes empty
unfoldable pub charged : Setup → Tables → ℕ → Tables
charged s t k =
    cond (eqb (counter t k) 1) (emptied s t k)
    (tables t.blocks (set t.counters k (counter t k - 1)) t.marks t.words t.memory)

unfoldable pub written : Setup → Tables → ℕ → Block → ℕ → ℕ → Tables
written s t i b o x =
    cond (sharing s t i b)
    (charged s (broadcast s t (slot s i b) b o x) (slot s (payer s t i b) b))
    (written_alone s t (slot s i b) o x)

-- 1 cycle if another cache holds b, else 0
unfoldable pub update_cycles : Setup → Tables → ℕ → Block → ℕ
update_cycles s t i b = cond (sharing s t i b) 1 0

-- ---- processor i's cache is cleared, "from line 0 up" (document 02, P6)

-- the first n lines, each as rule 1 empties it: a marked block is written back first
abbrev pub cleared : Setup → Tables → ℕ → ℕ → Tables
cleared s t i zero = t
cleared s t i (suc n) = evicted s (cleared s t i n) (line_slot s i n)

-- "marked blocks are written back at g each"
abbrev pub clear_cycles : Setup → Tables → ℕ → ℕ → ℕ
clear_cycles s t i zero = 0
clear_cycles s t i (suc n) = clear_cycles s t i n + save_cycles s (cleared s t i n) (line_slot s i n)
