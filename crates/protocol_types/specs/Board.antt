-- The board: setups, variables and blocks, and where a block stands (document 01, "The board").
use Rattle.std.specs.Prelude.{ℕ, ◌+◌, ◌*◌, ◌/◌, ◌%◌, ◌≤◌, ◌<◌, ◌≡◌, Bool, ◌&&◌, leb}
use Rattle.protocol_types.specs.Refusals.{no_refusal, unless, setup_out_of_range, price_out_of_range}
use Rattle.protocol_types.specs.declared.Setup.{Setup}
use Rattle.protocol_types.specs.declared.Variable.{Variable}
use Rattle.protocol_types.specs.declared.Block.{Block}

-- ---- 1: N, L, p or M out of range

-- a number from 1 to n
abbrev pub within : ℕ → ℕ → Bool
within n x = leb 1 x && leb x n

-- N processors (1 to 8), L lines in each cache (1 to 64), p words in a block (1 to 16), M blocks (1 to 256)
unfoldable pub sizes_in_range : Setup → Bool
sizes_in_range s = within 8 s.processors && within 64 s.lines && within 16 s.words && within 256 s.blocks

-- ---- 10: f or g out of range (document 02, P1)

-- the highest price
abbrev pub price_limit : ℕ
price_limit = 32

-- "a fetch price f (1 to 32) and a write-back price g (1 to f)"
unfoldable pub prices_in_range : Setup → Bool
prices_in_range s = within price_limit s.fetch_price && within s.fetch_price s.write_back_price

-- what refuses a setup: "10 … after 1 and acting as 1 does"
unfoldable pub setup_refusal : Setup → ℕ
setup_refusal s =
    unless (sizes_in_range s) setup_out_of_range
    (unless (prices_in_range s) price_out_of_range no_refusal)

-- ---- "The engine and every rival pay these prices"

-- the cycles of a fetch, which is also a full counter: f
unfoldable pub fetch_price : Setup → ℕ
fetch_price s = s.fetch_price

-- the cycles of a write-back: g
unfoldable pub write_back_price : Setup → ℕ
write_back_price s = s.write_back_price

-- the most write-back cycles of one request, g × L: a clear that finds every line marked (document 02, P6)
unfoldable pub most_write_back : Setup → ℕ
most_write_back s = write_back_price s * s.lines

-- the highest such number: the highest price, and 64 lines
abbrev pub most_write_back_limit : ℕ
most_write_back_limit = 2048

-- a setup that is not refused, as facts
pub record Fits (s : Setup) : Type 0 where
  pub some-processor : 1 ≤ s.processors
  pub few-processors : s.processors ≤ 8
  pub some-line : 1 ≤ s.lines
  pub few-lines : s.lines ≤ 64
  pub some_word : 1 ≤ s.words
  pub few_words : s.words ≤ 16
  pub some_block : 1 ≤ s.blocks
  pub few-blocks : s.blocks ≤ 256
  pub some-fetch : 1 ≤ fetch_price s
  pub few-fetch : fetch_price s ≤ price_limit
  pub some-write-back : 1 ≤ write_back_price s
  pub write-back-le-fetch : write_back_price s ≤ fetch_price s
  pub few-write-back : most_write_back s ≤ most_write_back_limit

-- ---- variables and blocks

-- the number of variables, M × p
abbrev pub variables : Setup → ℕ
variables s = s.blocks * s.words

-- variable v lies in block v / p, rounded down
unfoldable pub block_of : Setup → Variable → Block
block_of s v = record { 0 = v.0 / s.words }

-- at offset v mod p
unfoldable pub offset_of : Setup → Variable → ℕ
offset_of s v = v.0 % s.words

-- block B may stand only in line B mod L of any cache
unfoldable pub line_of : Setup → Block → ℕ
line_of s b = b.0 % s.lines

-- ---- places in the lent tables, which go processor by processor and line by line

-- the slots: one for each line of each cache
unfoldable pub slots : Setup → ℕ
slots s = s.processors * s.lines

-- the slot of line l of processor i
abbrev pub line_slot : Setup → ℕ → ℕ → ℕ
line_slot s i l = i * s.lines + l

-- the only slot of processor i where block b may stand
unfoldable pub slot : Setup → ℕ → Block → ℕ
slot s i b = line_slot s i (line_of s b)

-- k is that slot, and it is one of the slots
pub record Placed (s : Setup) (i : ℕ) (b : Block) (k : ℕ) : Type 0 where
  pub value : k ≡ slot s i b
  pub within : k < slots s

-- the index of word o of row k, a row being p words: the rows of the table of words are the slots, those of main memory the blocks
unfoldable pub word_index : Setup → ℕ → ℕ → ℕ
word_index s k o = k * s.words + o

-- the index of word o of block b in main memory
abbrev pub memory_index : Setup → Block → ℕ → ℕ
memory_index s b o = word_index s b.0 o
