-- Laws of a clear, line by line: what it empties, keeps and writes back, and what that costs.
-- From those of an eviction, and from soundness, which a clear keeps (sound-cleared).
use Prim.Native.Nat.{ℕ, zero, suc, ◌+◌, ◌*◌, ◌≤◌, ◌<◌}
use mathlib.Core.Path.{◌≡◌, refl, sym, ap, ◌∙◌}
use mathlib.Core.Logic.{◌≢◌}
use mathlib.Core.Bool.{cond}
use native.Mathlib.Omega.{arith}
use native.Mathlib.Nat.{le_refl, mul-add}
use lib.Dec.{eqb}
use borrow.Author.Tests.{eqb-true, eq-eqb}
use Rattle.protocol_types.specs.Lists.{at}
use Rattle.protocol_types.specs.Board.{Fits, slots, line_slot, write_back_price}
use Rattle.protocol.specs.Tables.{Tables, counter, block, mark, word, memory_word, marked}
use Rattle.protocol.specs.Soundness.{Sound}
use Rattle.protocol.specs.Rules.{written_back, emptied, saved, save_cycles, evicted, cleared, clear_cycles}
use Rattle.protocol.specs.Requests.{served, value, bill}
use Rattle.competitive.specs.Claims.{marked_lines, Emptied, Unchanged, ClearedRight}
use Rattle.protocol_types.specs.declared.Setup.{Setup}
use Rattle.protocol_types.specs.declared.Block.{Block}
use Rattle.protocol_types.proofs.Laws.{Same, same, apart, same?, choice, at_set_other}
use Rattle.protocol_types.proofs.Board.{block-path, line_slot-lt}
use Rattle.protocol.proofs.Accounts.{bill-path}
use Rattle.competitive.proofs.Sound.{written_back-memory-same, written_back-memory-other, emptied-word-other}
use Rattle.competitive.proofs.StepSound.{marked-holds, sound-saved, sound-cleared}
use Rattle.protocol.proofs.Slots.{evicted-counter, evicted-block, evicted-zero}

-- ---- one line is emptied

evicted-mark : (s : Setup) (t : Tables) (k m : ℕ) → m ≢ k → mark (evicted s t k) m ≡ mark t m
unfolding evicted emptied saved written_back
evicted-mark s t k m d =
    at_set_other (saved s t k).marks k 0 m d
    ∙ choice (λ (z : Tables). at z.marks m ≡ mark t m) (marked t k) (λ e. at_set_other t.marks k 0 m d) (λ e. refl)

module _ (s : Setup) (ok : Fits s) (t : Tables) (sd : Sound s t) (k : ℕ) (hk : k < slots s) where
  saved-word : (m o : ℕ) → word s (saved s t k) m o ≡ word s t m o
  unfolding saved written_back
  saved-word m o = choice (λ (z : Tables). word s z m o ≡ word s t m o) (marked t k) (λ e. refl) (λ e. refl)

  evicted-unchanged : (m : ℕ) → m ≢ k → Unchanged s t (evicted s t k) m
  unfolding evicted
  evicted-unchanged m d = record {
    counter = evicted-counter s t k m d;
    block = block-path (evicted-block s t k m d);
    mark = evicted-mark s t k m d;
    words = λ o u. emptied-word-other s ok (saved s t k) (sound-saved s ok t sd k hk) k m o d u ∙ saved-word m o;
  }

  -- a marked line's words reach memory
  evicted-memory : (o : ℕ) → o < s.words → mark t k ≡ 1 → memory_word s (evicted s t k) (block t k) o ≡ word s t k o
  unfolding evicted emptied saved marked
  evicted-memory o u e =
      rw (eq-eqb (mark t k) 1 e) (written_back-memory-same s ok t sd k o hk ((sd.line k hk).below (marked-holds s ok t sd k hk e)) u)

  -- and those of no other block
  evicted-memory-other : (b : Block) (o : ℕ) → o < s.words → (mark t k ≡ 1 → b ≢ block t k) → memory_word s (evicted s t k) b o ≡ memory_word s t b o
  unfolding evicted emptied saved marked
  evicted-memory-other b o u d =
      choice (λ (z : Tables). memory_word s z b o ≡ memory_word s t b o) (eqb (mark t k) 1)
      (λ e. written_back-memory-other s ok t sd k b o (d (eqb-true _ _ e)) u) (λ e. refl)

unchanged-on : {s : Setup} {t t' t'' : Tables} {k : ℕ} → Unchanged s t t' k → Unchanged s t' t'' k → Unchanged s t t'' k
unchanged-on a b = record {
  counter = b.counter ∙ a.counter;
  block = b.block ∙ a.block;
  mark = b.mark ∙ a.mark;
  words = λ o u. b.words o u ∙ a.words o u;
}

-- ---- the first n lines are

-- what is cleared is empty
pub cleared-zero : (s : Setup) (t : Tables) (i n l : ℕ) → l < n → counter (cleared s t i n) (line_slot s i l) ≡ 0
cleared-zero s t i zero l h = absurd (omega arith)
cleared-zero s t i (suc n) l h = go (same? l n) (λ h'. cleared-zero s t i n l h')
  where
    go : Same l n → (l < n → counter (cleared s t i n) (line_slot s i l) ≡ 0) → counter (evicted s (cleared s t i n) (line_slot s i n)) (line_slot s i l) ≡ 0
    go (same p q) f = rw p (evicted-zero s (cleared s t i n) (line_slot s i n))
    go (apart p q) f = evicted-counter s (cleared s t i n) (line_slot s i n) (line_slot s i l) (omega arith) ∙ f (omega arith)

module _ (s : Setup) (ok : Fits s) (t : Tables) (sd : Sound s t) (i : ℕ) (hi : i < s.processors) where
  module _ (n : ℕ) (hn : n < s.lines) where
    sound-so-far : Sound s (cleared s t i n)
    sound-so-far = sound-cleared s ok t sd i n hi (omega arith)

    place : line_slot s i n < slots s
    place = line_slot-lt s ok i n hi hn

  -- what is not reached stays
  cleared-unchanged : (n : ℕ) → n ≤ s.lines → (k : ℕ) → ((l : ℕ) → l < n → k ≢ line_slot s i l) → Unchanged s t (cleared s t i n) k
  cleared-unchanged zero hn k d = record { counter = refl; block = refl; mark = refl; words = λ o u. refl }
  cleared-unchanged (suc n) hn k d =
      unchanged-on (cleared-unchanged n (omega arith) k (λ l h. d l (omega arith)))
      (evicted-unchanged s ok (cleared s t i n) (sound-so-far n hn) (line_slot s i n) (place n hn) k (d n (omega arith)))

  -- so a line comes as it was before
  next-unchanged : (n : ℕ) → n < s.lines → Unchanged s t (cleared s t i n) (line_slot s i n)
  next-unchanged n hn = cleared-unchanged n (omega arith) (line_slot s i n) (λ l h. omega arith)

  cleared-keeps : (n : ℕ) → n ≤ s.lines → (b : Block) (o : ℕ) → o < s.words
      → ((l : ℕ) → l < n → mark t (line_slot s i l) ≡ 1 → b ≢ block t (line_slot s i l)) → memory_word s (cleared s t i n) b o ≡ memory_word s t b o
  cleared-keeps zero hn b o u d = refl
  cleared-keeps (suc n) hn b o u d =
      let same_line = next-unchanged n hn in
      evicted-memory-other s ok (cleared s t i n) (sound-so-far n hn) (line_slot s i n) (place n hn) b o u
      (λ e y. d n (omega arith) (sym same_line.mark ∙ e) (y ∙ same_line.block))
      ∙ cleared-keeps n (omega arith) b o u (λ l h. d l (omega arith))

  cleared-takes : (n : ℕ) → n ≤ s.lines → (l o : ℕ) → l < n → o < s.words → mark t (line_slot s i l) ≡ 1
      → memory_word s (cleared s t i n) (block t (line_slot s i l)) o ≡ word s t (line_slot s i l) o
  cleared-takes zero hn l o h u e = absurd (omega arith)
  cleared-takes (suc n) hn l o h u e = go (same? l n) (λ h'. cleared-takes n (omega arith) l o h' u e)
    where
      t' : Tables
      t' = cleared s t i n

      k : ℕ
      k = line_slot s i n

      same_line : Unchanged s t (cleared s t i n) (line_slot s i n)
      same_line = next-unchanged n hn

      go : Same l n → (l < n → memory_word s (cleared s t i n) (block t (line_slot s i l)) o ≡ word s t (line_slot s i l) o)
          → memory_word s (evicted s (cleared s t i n) (line_slot s i n)) (block t (line_slot s i l)) o ≡ word s t (line_slot s i l) o
      go (same p q) f =
          rw p
          (ap (λ b. memory_word s (evicted s t' k) b o) (sym same_line.block)
          ∙ evicted-memory s ok t' (sound-so-far n hn) k (place n hn) o u (same_line.mark ∙ ap (λ z. mark t (line_slot s i z)) (sym p) ∙ e)
          ∙ same_line.words o u)
      go (apart p q) f =
          let there = line_slot-lt s ok i l hi (omega arith) in
          let d : mark t k ≡ 1 → block t (line_slot s i l) ≢ block t k
          = λ m. sd.lone k (line_slot s i l) (place n hn) there m (omega arith) (marked-holds s ok t sd (line_slot s i l) there e) in
          evicted-memory-other s ok t' (sound-so-far n hn) k (place n hn) (block t (line_slot s i l)) o u
          (λ m y. d (sym same_line.mark ∙ m) (y ∙ same_line.block))
          ∙ f (omega arith)

  -- g for each marked line
  cleared-cycles : (n : ℕ) → n ≤ s.lines → clear_cycles s t i n ≡ write_back_price s * marked_lines s t i n
  unfolding save_cycles marked
  cleared-cycles zero hn = omega arith
  cleared-cycles (suc n) hn =
      let g : ℕ = write_back_price s in
      let m : ℕ = marked_lines s t i n in
      rw (next-unchanged n hn).mark
      (choice (λ z. clear_cycles s t i n + z ≡ g * (m + cond (eqb (mark t (line_slot s i n)) 1) 1 0)) (eqb (mark t (line_slot s i n)) 1)
      (λ e. rw e (omega (arith, cleared-cycles n (omega arith), mul-add g m 1)))
      (λ e. rw e (omega (arith, cleared-cycles n (omega arith), mul-add g m 0))))

  -- ---- all lines are

  all-empty : (l : ℕ) → l < s.lines → Emptied s (cleared s t i s.lines) (line_slot s i l)
  all-empty l h =
      let z = cleared-zero s t i s.lines l h in
      let line = (sound-cleared s ok t sd i s.lines hi (le_refl _)).line (line_slot s i l) (line_slot-lt s ok i l hi h) in
      record { counter = z; block = line.no_block z; mark = line.no-mark z; words = line.no_words z }

  pub cleared-right : ClearedRight s t i
  unfolding served value bill
  cleared-right = record {
    empties = all-empty;
    others = cleared-unchanged s.lines (le_refl _);
    takes = cleared-takes s.lines (le_refl _);
    keeps = cleared-keeps s.lines (le_refl _);
    charges = bill-path refl (cleared-cycles s.lines (le_refl _)) refl;
    gives = refl;
  }
