-- The lent tables (document 01, "The board").
use Rattle.std.specs.Prelude.{ℕ, ◌*◌, ◌≡◌, Bool, ◌&&◌, List, [], length, ltb, eqb}
use Rattle.protocol_types.specs.Lists.{at, part, zeros, other}
use Rattle.protocol_types.specs.Board.{slots, slot, word_index, memory_index, variables}
use Rattle.protocol_types.specs.declared.Setup.{Setup}
use Rattle.protocol_types.specs.declared.Block.{Block}

-- slot by slot a block number, a counter, a dirty mark and the words; and main memory
pub record Tables : Type 0 where
  pub blocks : List ℕ
  pub counters : List ℕ
  pub marks : List ℕ
  pub words : List ℕ
  pub memory : List ℕ

-- the tables of these five lists
abbrev pub tables : List ℕ → List ℕ → List ℕ → List ℕ → List ℕ → Tables
tables b c m w g = record { blocks = b; counters = c; marks = m; words = w; memory = g }

-- ---- an entry

abbrev pub counter : Tables → ℕ → ℕ
counter t k = at t.counters k

abbrev pub block : Tables → ℕ → Block
block t k = record { 0 = at t.blocks k }

abbrev pub mark : Tables → ℕ → ℕ
mark t k = at t.marks k

abbrev pub word : Setup → Tables → ℕ → ℕ → ℕ
word s t k o = at t.words (word_index s k o)

abbrev pub memory_word : Setup → Tables → Block → ℕ → ℕ
memory_word s t b o = at t.memory (memory_index s b o)

-- the words of slot k, and of block b in main memory
unfoldable pub line_words : Setup → Tables → ℕ → List ℕ
line_words s t k = part t.words (word_index s k 0) s.words

unfoldable pub memory_words : Setup → Tables → Block → List ℕ
memory_words s t b = part t.memory (memory_index s b 0) s.words

-- ---- 2: lengths

unfoldable pub sized : Setup → Tables → Bool
sized s t =
    eqb (length t.blocks) (slots s) && eqb (length t.counters) (slots s) && eqb (length t.marks) (slots s)
    && eqb (length t.words) (slots s * s.words) && eqb (length t.memory) (variables s)

-- the same, as facts
pub record Sized (s : Setup) (t : Tables) : Type 0 where
  pub blocks : length t.blocks ≡ slots s
  pub counters : length t.counters ≡ slots s
  pub marks : length t.marks ≡ slots s
  pub words : length t.words ≡ slots s * s.words
  pub memory : length t.memory ≡ variables s

-- ---- fresh tables: "Starting fills all tables with 0"

unfoldable pub fresh : Setup → Tables
fresh s = tables (zeros (slots s)) (zeros (slots s)) (zeros (slots s)) (zeros (slots s * s.words)) (zeros (variables s))

-- ---- what a cache holds: "Counter 0 means an empty line"

-- slot k holds block b
unfoldable pub holds_at : Tables → ℕ → Block → Bool
holds_at t k b = ltb 0 (counter t k) && eqb (block t k).0 b.0

-- processor i holds block b
unfoldable pub holds : Setup → Tables → ℕ → Block → Bool
holds s t i b = holds_at t (slot s i b) b

-- a processor other than i holds it
unfoldable pub sharing : Setup → Tables → ℕ → Block → Bool
sharing s t i b = ltb (other s.processors i (λ j. holds s t j b)) s.processors

-- the counter of processor i's line for block b
abbrev pub line_counter : Setup → Tables → Block → ℕ → ℕ
line_counter s t b i = counter t (slot s i b)

-- slot k is marked
unfoldable pub marked : Tables → ℕ → Bool
marked t k = eqb (mark t k) 1

-- the directory of the caches: block numbers and counters alone, which say what is held
abbrev pub directory : List ℕ → List ℕ → Tables
directory b c = tables b c [] [] []
