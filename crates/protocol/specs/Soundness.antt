-- Sound tables (document 01, "The board"; condition 20), as facts and as a test. proofs/Checked proves that they agree.
use Rattle.std.specs.Prelude.{ℕ, ◌+◌, ◌*◌, ◌%◌, ◌≤◌, ◌<◌, ◌≡◌, ◌≢◌, Bool, ◌&&◌, not, cond, leb, ltb, eqb}
use Rattle.protocol_types.specs.Lists.{all}
use Rattle.protocol_types.specs.Board.{fetch_price, line_of, slots}
use Rattle.protocol.specs.Tables.{Tables, Sized, counter, block, mark, word, memory_word, sharing}
use Rattle.protocol_types.specs.declared.Setup.{Setup}
use Rattle.protocol_types.specs.declared.Block.{Block}

-- ---- as facts

-- slot k, with counter c, block b, mark m and words w, and the block's words g in main memory
pub record SlotSound (s : Setup) (k c : ℕ) (b : Block) (m : ℕ) (w g : ℕ → ℕ) : Type 0 where
  -- every counter is at most f
  pub bounded : c ≤ fetch_price s
  -- empty lines are all 0
  pub no_block : c ≡ 0 → b.0 ≡ 0
  pub no-mark : c ≡ 0 → m ≡ 0
  pub no_words : c ≡ 0 → (o : ℕ) → o < s.words → w o ≡ 0
  -- a held block is below M and in its proper line
  pub below : 0 < c → b.0 < s.blocks
  pub proper : 0 < c → k % s.lines ≡ line_of s b
  -- marks are 0 or 1
  pub mark-le : m ≤ 1
  -- a marked block has counter f
  pub full : m ≡ 1 → c ≡ fetch_price s
  -- an unmarked copy equals main memory
  pub clean : m ≡ 0 → 0 < c → (o : ℕ) → o < s.words → w o ≡ g o

abbrev pub SlotSoundAt : Setup → Tables → ℕ → Type 0
SlotSoundAt s t k = SlotSound s k (counter t k) (block t k) (mark t k) (word s t k) (memory_word s t (block t k))

-- a marked block has one holder
abbrev pub Lone : Setup → Tables → Type 0
Lone s t = (k m : ℕ) → k < slots s → m < slots s → mark t k ≡ 1 → m ≢ k → 0 < counter t m → block t m ≢ block t k

pub record Sound (s : Setup) (t : Tables) : Type 0 where
  pub lengths : Sized s t
  pub line : (k : ℕ) → k < slots s → SlotSoundAt s t k
  pub lone : Lone s t

-- ---- as a test

-- the empty line at slot k is all 0
unfoldable pub empty_line : Setup → Tables → ℕ → Bool
empty_line s t k = eqb (block t k).0 0 && eqb (mark t k) 0 && all s.words (λ o. eqb (word s t k o) 0)

-- an unmarked copy equals main memory; a marked block has counter f and no holder but processor i
unfoldable pub copy_line : Setup → Tables → ℕ → ℕ → Bool
copy_line s t i k =
    cond (eqb (mark t k) 0)
    (all s.words (λ o. eqb (word s t k o) (memory_word s t (block t k) o)))
    (eqb (mark t k) 1 && eqb (counter t k) (fetch_price s) && not (sharing s t i (block t k)))

-- line l of processor i, which is at slot k
unfoldable pub sound_line : Setup → Tables → ℕ → ℕ → ℕ → Bool
sound_line s t i l k =
    cond (eqb (counter t k) 0) (empty_line s t k)
    (leb (counter t k) (fetch_price s) && ltb (block t k).0 s.blocks && eqb (line_of s (block t k)) l && copy_line s t i k)

-- every line of every processor
unfoldable pub sound : Setup → Tables → Bool
sound s t = all s.processors (λ i. all s.lines (λ l. sound_line s t i l (i * s.lines + l)))
