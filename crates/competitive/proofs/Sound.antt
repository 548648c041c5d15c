-- Each part of a step keeps the tables sound, and what it does to each word.
use Prim.Native.Nat.{ℕ, zero, suc, ◌-◌, ◌/◌, ◌%◌, ◌≤◌, ◌<◌}
use mathlib.Core.Path.{◌≡◌, refl, sym, ap, ◌∙◌}
use mathlib.Core.Logic.{◌≢◌}
use mathlib.Core.Bool.{true}
use native.Mathlib.Omega.{arith}
use lib.ListN.{length, set, length-replicate}
use lib.Dec.{eqb}
use borrow.Author.Tests.{eqb-false}
use Rattle.protocol_types.specs.Lists.{at, zeros}
use Rattle.protocol_types.specs.Board.{Fits, slots, slot, line_of, word_index, memory_index, fetch_price}
use Rattle.protocol.specs.Tables.{Tables, tables, counter, block, mark, word, memory_word, line_words, memory_words, holds}
use Rattle.protocol.specs.Soundness.{SlotSound, SlotSoundAt, Sound}
use Rattle.protocol.specs.Rules.{written_back, emptied, filled, updated_copies, written_alone, broadcast, charged}
use Rattle.protocol_types.specs.declared.Setup.{Setup}
use Rattle.protocol_types.specs.declared.Block.{Block}
use Rattle.protocol_types.proofs.Laws.{Same, same, apart, same?, choice, at_set_same, at_set_other, at-zeros}
use Rattle.protocol_types.proofs.Board.{block-path, block-number, SameBlock, one, two, same-block?, slot_lt, slot-inj, word_index-inj, word_index-lt, processor-lt}
use Rattle.protocol_types.proofs.Rows.{row-le, length-row, at_row, at-sets-row, at-sets-other}
use Rattle.protocol.proofs.Holding.{holder-slot, slot-holder}
use Rattle.protocol.proofs.Lengths.{counter-stored, block-stored, mark-stored, length-updated_copies, sized-written_back, sized-emptied, sized-filled, sized-written_alone, sized-broadcast, sized-recounted}

-- a line with the same entries
pub reline : (s : Setup) {k c m c' m' : ℕ} {b b' : Block} {w w' g g' : ℕ → ℕ} → c' ≡ c → b' ≡ b → m' ≡ m → ((o : ℕ) → o < s.words → w' o ≡ w o)
    → (0 < c → (o : ℕ) → o < s.words → g' o ≡ g o) → SlotSound s k c b m w g → SlotSound s k c' b' m' w' g'
reline s {k} {c} {m} {c'} {m'} {b} {b'} {w} {w'} {g} {g'} ec eb em ew eg l = record {
  bounded = omega (arith, l.bounded);
  no_block = λ e. block-number eb ∙ l.no_block (omega arith);
  no-mark = λ e. em ∙ l.no-mark (omega arith);
  no_words = λ e o h. ew o h ∙ l.no_words (omega arith) o h;
  below = λ h. rw eb (l.below (omega arith));
  proper = λ h. rw eb (l.proper (omega arith));
  mark-le = omega (arith, l.mark-le);
  full = λ e. ec ∙ l.full (omega arith);
  clean = λ e h o u. ew o u ∙ l.clean (omega arith) (omega arith) o u ∙ sym (eg (omega arith) o u);
}

-- an empty line
pub empty-line : (s : Setup) (k c : ℕ) (b : Block) (m : ℕ) (w g : ℕ → ℕ) → c ≡ 0 → b.0 ≡ 0 → m ≡ 0 → ((o : ℕ) → o < s.words → w o ≡ 0)
    → SlotSound s k c b m w g
empty-line s k c b m w g ec eb em ew = record {
  bounded = omega arith;
  no_block = λ e. eb;
  no-mark = λ e. em;
  no_words = λ e. ew;
  below = λ h. absurd (omega arith);
  proper = λ h. absurd (omega arith);
  mark-le = omega arith;
  full = λ e. absurd (omega arith);
  clean = λ e h. absurd (omega arith);
}

-- ---- laws of the parts, slot by slot

module _ (s : Setup) (ok : Fits s) (t : Tables) (sd : Sound s t) where
  -- -- memory takes a line's words

  length-line_words : (k : ℕ) → k < slots s → length (line_words s t k) ≡ s.words
  unfolding line_words
  length-line_words k h = length-row s t.words (slots s) sd.lengths.words k h

  pub written_back-memory-same : (k o : ℕ) → k < slots s → (block t k).0 < s.blocks → o < s.words
      → memory_word s (written_back s t k) (block t k) o ≡ word s t k o
  unfolding written_back line_words
  written_back-memory-same k o h b u =
      at-sets-row s t.memory s.blocks sd.lengths.memory (block t k).0 (line_words s t k) o b (length-line_words k h) u
      ∙ at_row s t.words k o u

  pub written_back-memory-other : (k : ℕ) (c : Block) (o : ℕ) → c ≢ block t k → o < s.words → memory_word s (written_back s t k) c o ≡ memory_word s t c o
  unfolding written_back line_words
  written_back-memory-other k c o d u =
      at-sets-other s t.memory (block t k).0 c.0 (line_words s t k) o (λ y. d (block-path y)) (row-le s t.words k) u

  pub sound-written_back : (k : ℕ) → k < slots s → mark t k ≡ 1 → Sound s (written_back s t k)
  unfolding written_back
  sound-written_back k h e = record {
    lengths = sized-written_back s t sd.lengths k;
    line = λ m u. line' m u (same? m k);
    lone = λ j m u v p. lone' j m u v p (same? j k);
  }
    where
      c_pos : 0 < counter t k
      c_pos = omega (arith, (sd.line k h).full e, ok.some-fetch)

      line' : (m : ℕ) → m < slots s → Same m k → SlotSoundAt s (written_back s t k) m
      line' m u (same p q) = rw p (record {
        bounded = (sd.line k h).bounded;
        no_block = (sd.line k h).no_block;
        no-mark = λ z. absurd (omega (arith, z, c_pos));
        no_words = (sd.line k h).no_words;
        below = (sd.line k h).below;
        proper = (sd.line k h).proper;
        mark-le = omega (arith, mark-stored s t sd.lengths k 0 h);
        full = λ z. (sd.line k h).full e;
        clean = λ z l o v. sym (written_back-memory-same k o h ((sd.line k h).below l) v);
      })
      line' m u (apart p q) =
          reline s refl refl (at_set_other t.marks k 0 m p) (λ o v. refl)
          (λ l o v. written_back-memory-other k (block t m) o (sd.lone k m h u e p l) v) (sd.line m u)

      lone' : (j m : ℕ) → j < slots s → m < slots s → mark (written_back s t k) j ≡ 1 → Same j k → m ≢ j → 0 < counter t m → block t m ≢ block t j
      lone' j m u v p (same z y) d l = absurd (omega (arith, p, ap (mark (written_back s t k)) z, mark-stored s t sd.lengths k 0 h))
      lone' j m u v p (apart z y) d l = sd.lone j m u v (sym (at_set_other t.marks k 0 j z) ∙ p) d l

  -- -- a line becomes empty

  pub emptied-word-same : (k o : ℕ) → k < slots s → o < s.words → word s (emptied s t k) k o ≡ 0
  unfolding emptied
  emptied-word-same k o h u =
      at-sets-row s t.words (slots s) sd.lengths.words k (zeros s.words) o h (length-replicate s.words 0) u ∙ at-zeros s.words o

  pub emptied-word-other : (k m o : ℕ) → m ≢ k → o < s.words → word s (emptied s t k) m o ≡ word s t m o
  unfolding emptied
  emptied-word-other k m o d u = at-sets-other s t.words k m (zeros s.words) o d (omega (arith, length-replicate {A = ℕ} s.words 0)) u

  pub sound-emptied : (k : ℕ) → k < slots s → Sound s (emptied s t k)
  unfolding emptied
  sound-emptied k h = record {
    lengths = sized-emptied s t sd.lengths k;
    line = λ m u. line' m u (same? m k);
    lone = λ j m u v p d l. lone' j m u v p d l (same? j k) (same? m k);
  }
    where
      line' : (m : ℕ) → m < slots s → Same m k → SlotSoundAt s (emptied s t k) m
      line' m u (same p q) =
          rw p
          (empty-line s k _ _ _ _ _ (counter-stored s t sd.lengths k 0 h) (block-stored s t sd.lengths k 0 h) (mark-stored s t sd.lengths k 0 h)
          (λ o v. emptied-word-same k o h v))
      line' m u (apart p q) =
          let eb : block (emptied s t k) m ≡ block t m = block-path (at_set_other t.blocks k 0 m p) in
          reline s (at_set_other t.counters k 0 m p) eb (at_set_other t.marks k 0 m p) (λ o v. emptied-word-other k m o p v)
          (λ l o v. ap (λ z. memory_word s t z o) eb) (sd.line m u)

      lone' : (j m : ℕ) → j < slots s → m < slots s → mark (emptied s t k) j ≡ 1 → m ≢ j → 0 < counter (emptied s t k) m → Same j k → Same m k
          → block (emptied s t k) m ≢ block (emptied s t k) j
      lone' j m u v p d l (same z y) x = absurd (omega (arith, p, ap (mark (emptied s t k)) z, mark-stored s t sd.lengths k 0 h))
      lone' j m u v p d l (apart z y) (same c a) = absurd (omega (arith, l, ap (counter (emptied s t k)) c, counter-stored s t sd.lengths k 0 h))
      lone' j m u v p d l (apart z y) (apart c a) = rw (at_set_other t.blocks k 0 m c, at_set_other t.blocks k 0 j z)
          (sd.lone j m u v (sym (at_set_other t.marks k 0 j z) ∙ p) d (rw (at_set_other t.counters k 0 m c) at l))

  -- -- a line is filled

  length-memory_words : (b : Block) → b.0 < s.blocks → length (memory_words s t b) ≡ s.words
  unfolding memory_words
  length-memory_words b h = length-row s t.memory s.blocks sd.lengths.memory b.0 h

  pub filled-word-same : (k : ℕ) (b : Block) (o : ℕ) → k < slots s → b.0 < s.blocks → o < s.words → word s (filled s t k b) k o ≡ memory_word s t b o
  unfolding filled memory_words
  filled-word-same k b o h l u =
      at-sets-row s t.words (slots s) sd.lengths.words k (memory_words s t b) o h (length-memory_words b l) u
      ∙ at_row s t.memory b.0 o u

  pub filled-word-other : (k : ℕ) (b : Block) (m o : ℕ) → m ≢ k → o < s.words → word s (filled s t k b) m o ≡ word s t m o
  unfolding filled memory_words
  filled-word-other k b m o d u = at-sets-other s t.words k m (memory_words s t b) o d (row-le s t.memory b.0) u

  pub sound-filled : (k : ℕ) (b : Block) → k < slots s → b.0 < s.blocks → k % s.lines ≡ line_of s b
      → ((m : ℕ) → m < slots s → mark t m ≡ 1 → block t m ≢ b) → Sound s (filled s t k b)
  unfolding filled
  sound-filled k b h hb pr un = record {
    lengths = sized-filled s t sd.lengths k b;
    line = λ m u. line' m u (same? m k);
    lone = λ j m u v p d l. lone' j m u v p d l (same? j k) (same? m k);
  }
    where
      line' : (m : ℕ) → m < slots s → Same m k → SlotSoundAt s (filled s t k b) m
      line' m u (same p q) = rw (
        p,
        counter-stored s t sd.lengths k (fetch_price s) h,
        block-stored s t sd.lengths k b.0 h,
        mark-stored s t sd.lengths k 0 h,
      ) (record {
        bounded = omega arith;
        no_block = λ z. absurd (omega (arith, ok.some-fetch));
        no-mark = λ z. refl;
        no_words = λ z. absurd (omega (arith, ok.some-fetch));
        below = λ z. hb;
        proper = λ z. pr;
        mark-le = omega arith;
        full = λ z. refl;
        clean = λ z l o v. filled-word-same k b o h hb v;
      })
      line' m u (apart p q) =
          let eb : block (filled s t k b) m ≡ block t m = block-path (at_set_other t.blocks k b.0 m p) in
          reline s (at_set_other t.counters k (fetch_price s) m p) eb (at_set_other t.marks k 0 m p) (λ o v. filled-word-other k b m o p v)
          (λ l o v. ap (λ z. memory_word s t z o) eb) (sd.line m u)

      lone' : (j m : ℕ) → j < slots s → m < slots s → mark (filled s t k b) j ≡ 1 → m ≢ j → 0 < counter (filled s t k b) m → Same j k → Same m k
          → block (filled s t k b) m ≢ block (filled s t k b) j
      lone' j m u v p d l (same z y) x = absurd (omega (arith, p, ap (mark (filled s t k b)) z, mark-stored s t sd.lengths k 0 h))
      lone' j m u v p d l (apart z y) (same g a) = rw (g, block-stored s t sd.lengths k b.0 h, at_set_other t.blocks k b.0 j z)
          (λ x. un j u (sym (at_set_other t.marks k 0 j z) ∙ p) (sym x))
      lone' j m u v p d l (apart z y) (apart g a) = rw (at_set_other t.blocks k b.0 m g, at_set_other t.blocks k b.0 j z)
          (sd.lone j m u v (sym (at_set_other t.marks k 0 j z) ∙ p) d (rw (at_set_other t.counters k (fetch_price s) m g) at l))

  -- -- a lone holder writes

  pub sound-written_alone : (k o x : ℕ) → k < slots s → 0 < counter t k → o < s.words
      → ((m : ℕ) → m < slots s → m ≢ k → 0 < counter t m → block t m ≢ block t k) → Sound s (written_alone s t k o x)
  unfolding written_alone
  sound-written_alone k o x h pos ho un = record {
    lengths = sized-written_alone s t sd.lengths k o x;
    line = λ m u. line' m u (same? m k);
    lone = λ j m u v p d l. lone' j m u v p d l (same? j k) (same? m k);
  }
    where
      line' : (m : ℕ) → m < slots s → Same m k → SlotSoundAt s (written_alone s t k o x) m
      line' m u (same p q) = rw (p, counter-stored s t sd.lengths k (fetch_price s) h, mark-stored s t sd.lengths k 1 h) (record {
        bounded = omega arith;
        no_block = λ z. absurd (omega (arith, ok.some-fetch));
        no-mark = λ z. absurd (omega (arith, ok.some-fetch));
        no_words = λ z. absurd (omega (arith, ok.some-fetch));
        below = λ z. (sd.line k h).below pos;
        proper = λ z. (sd.line k h).proper pos;
        mark-le = omega arith;
        full = λ z. refl;
        clean = λ z. absurd (omega arith);
      })
      line' m u (apart p q) =
          reline s (at_set_other t.counters k (fetch_price s) m p) refl (at_set_other t.marks k 1 m p)
          (λ u v. at_set_other t.words (word_index s k o) x (word_index s m u) (λ e. p (word_index-inj s ok m k u o v ho e).0))
          (λ l u v. refl) (sd.line m u)

      lone' : (j m : ℕ) → j < slots s → m < slots s → mark (written_alone s t k o x) j ≡ 1 → m ≢ j → 0 < counter (written_alone s t k o x) m
          → Same j k → Same m k → block t m ≢ block t j
      lone' j m u v p d l (same z y) (same g a) = absurd (d (g ∙ sym z))
      lone' j m u v p d l (same z y) (apart g a) = rw z (un m v g (rw (at_set_other t.counters k (fetch_price s) m g) at l))
      lone' j m u v p d l (apart z y) (same g a) =
          rw g (λ e. un j u z (omega (arith, (sd.line j u).full (sym (at_set_other t.marks k 1 j z) ∙ p), ok.some-fetch)) (sym e))
      lone' j m u v p d l (apart z y) (apart g a) =
          sd.lone j m u v (sym (at_set_other t.marks k 1 j z) ∙ p) d (rw (at_set_other t.counters k (fetch_price s) m g) at l)

  -- -- a broadcast

  -- an index that is in no copy of b stays
  updated_copies-out : (b : Block) (o x n q : ℕ) → ((j : ℕ) → j < n → holds s t j b ≡ true → q ≢ word_index s (slot s j b) o)
      → at (updated_copies s t b o x n) q ≡ at t.words q
  updated_copies-out b o x zero q f = refl
  updated_copies-out b o x (suc n) q f =
      choice (λ z. at z q ≡ at t.words q) (holds s t n b)
      (λ e. at_set_other (updated_copies s t b o x n) (word_index s (slot s n b) o) x q (f n (omega arith) e)
      ∙ updated_copies-out b o x n q (λ j l. f j (omega arith)))
      (λ e. updated_copies-out b o x n q (λ j l. f j (omega arith)))

  -- the word in each copy of b is x
  updated_copies-in : (b : Block) (o x n j : ℕ) → o < s.words → j < n → n ≤ s.processors → holds s t j b ≡ true
      → at (updated_copies s t b o x n) (word_index s (slot s j b) o) ≡ x
  updated_copies-in b o x zero j ho h l e = absurd (omega arith)
  updated_copies-in b o x (suc n) j ho h l e = go (same? j n) (λ h'. updated_copies-in b o x n j ho h' (omega arith) e)
    where
      in_words : (i : ℕ) → i < s.processors → word_index s (slot s i b) o < length (updated_copies s t b o x n)
      in_words i u =
          omega (arith, word_index-lt s ok (slot s i b) (slots s) o (slot_lt s ok i b u) ho, length-updated_copies s t b o x n, sd.lengths.words)

      go : Same j n → (j < n → at (updated_copies s t b o x n) (word_index s (slot s j b) o) ≡ x)
          → at (updated_copies s t b o x (suc n)) (word_index s (slot s j b) o) ≡ x
      go (same p q) f =
          let e' : holds s t n b ≡ true = rw p at e in
          rw (p, e') (at_set_same (updated_copies s t b o x n) (word_index s (slot s n b) o) x (in_words n (omega arith)))
      go (apart p q) f =
          choice (λ z. at z (word_index s (slot s j b) o) ≡ x) (holds s t n b)
          (λ g. at_set_other (updated_copies s t b o x n) (word_index s (slot s n b) o) x (word_index s (slot s j b) o)
          (λ y. p (slot-inj s ok j n b b (word_index-inj s ok (slot s j b) (slot s n b) o o ho ho y).0)) ∙ f (omega arith))
          (λ g. f (omega arith))

  pub broadcast-word-out : (k : ℕ) (b : Block) (o x m u : ℕ) → o < s.words → u < s.words → (0 < counter t m → block t m ≡ b → u ≢ o)
      → word s (broadcast s t k b o x) m u ≡ word s t m u
  unfolding broadcast
  broadcast-word-out k b o x m u ho hu f =
      updated_copies-out b o x s.processors (word_index s m u) (λ j l e y. go j e (word_index-inj s ok m (slot s j b) u o hu ho y))
    where
      go : (j : ℕ) → holds s t j b ≡ true → (m ≡ slot s j b) × (u ≡ o) → ⊥
      go j e y = let g = holder-slot s t j b e in f (rw y.0 g.0) (rw y.0 g.1) y.1

  pub broadcast-word-in : (k : ℕ) (b : Block) (o x m : ℕ) → o < s.words → m < slots s → 0 < counter t m → block t m ≡ b
      → word s (broadcast s t k b o x) m o ≡ x
  unfolding broadcast
  broadcast-word-in k b o x m ho h l e =
      let g = slot-holder s ok t m b ((sd.line m h).proper l ∙ ap (line_of s) e) l e in
      rw g.0 at (updated_copies-in b o x s.processors (m / s.lines) ho (processor-lt s ok m h) (omega arith) g.1)

  pub broadcast-memory-same : (k : ℕ) (b : Block) (o x : ℕ) → b.0 < s.blocks → o < s.words → memory_word s (broadcast s t k b o x) b o ≡ x
  unfolding broadcast
  broadcast-memory-same k b o x hb ho =
      at_set_same t.memory (memory_index s b o) x (omega (arith, word_index-lt s ok b.0 s.blocks o hb ho, sd.lengths.memory))

  pub broadcast-memory-other : (k : ℕ) (b : Block) (o x : ℕ) (c : Block) (u : ℕ) → o < s.words → u < s.words → (c ≡ b → u ≢ o)
      → memory_word s (broadcast s t k b o x) c u ≡ memory_word s t c u
  unfolding broadcast
  broadcast-memory-other k b o x c u ho hu f =
      at_set_other t.memory (memory_index s b o) x (memory_index s c u)
      (λ y. let g = word_index-inj s ok c.0 b.0 u o hu ho y in f (block-path g.0) g.1)

  pub sound-broadcast : (k : ℕ) (b : Block) (o x : ℕ) → k < slots s → 0 < counter t k → block t k ≡ b → o < s.words
      → ((m : ℕ) → m < slots s → 0 < counter t m → block t m ≡ b → mark t m ≢ 1) → Sound s (broadcast s t k b o x)
  unfolding broadcast
  sound-broadcast k b o x h pos eb ho un = record {
    lengths = sized-broadcast s t sd.lengths k b o x;
    line = λ m u. line' m u (same? m k);
    lone = λ j m u v p d l. sd.lone j m u v p d (pos' m l (same? m k));
  }
    where
      pos' : (m : ℕ) → 0 < counter (broadcast s t k b o x) m → Same m k → 0 < counter t m
      pos' m l (same p q) = rw p pos
      pos' m l (apart p q) = rw (at_set_other t.counters k (fetch_price s) m p) at l

      hb : b.0 < s.blocks
      hb = rw (block-number eb) at ((sd.line k h).below pos)

      clean' : (m : ℕ) → m < slots s → mark t m ≡ 0 → 0 < counter t m → (u : ℕ) → u < s.words → SameBlock (block t m) b → Same u o
          → word s (broadcast s t k b o x) m u ≡ memory_word s (broadcast s t k b o x) (block t m) u
      clean' m v z l u y (one p) (same g a) =
          rw (g, block-number p) (broadcast-word-in k b o x m ho v l p ∙ sym (broadcast-memory-same k b o x hb ho))
      clean' m v z l u y (one p) (apart g a) =
          broadcast-word-out k b o x m u ho y (λ _ _. g) ∙ (sd.line m v).clean z l u y ∙ sym (broadcast-memory-other k b o x (block t m) u ho y (λ _. g))
      clean' m v z l u y (two p) g =
          broadcast-word-out k b o x m u ho y (λ _ e. absurd (p e)) ∙ (sd.line m v).clean z l u y
          ∙ sym (broadcast-memory-other k b o x (block t m) u ho y (λ e. absurd (p e)))

      line' : (m : ℕ) → m < slots s → Same m k → SlotSoundAt s (broadcast s t k b o x) m
      line' m u (same p q) = rw (p, counter-stored s t sd.lengths k (fetch_price s) h) (record {
        bounded = omega arith;
        no_block = λ z. absurd (omega (arith, ok.some-fetch));
        no-mark = λ z. absurd (omega (arith, ok.some-fetch));
        no_words = λ z. absurd (omega (arith, ok.some-fetch));
        below = λ z. (sd.line k h).below pos;
        proper = λ z. (sd.line k h).proper pos;
        mark-le = (sd.line k h).mark-le;
        full = λ z. refl;
        clean = λ z l u y. clean' k h z pos u y (same-block? (block t k) b) (same? u o);
      })
      line' m u (apart p q) = rw (at_set_other t.counters k (fetch_price s) m p) (record {
        bounded = (sd.line m u).bounded;
        no_block = (sd.line m u).no_block;
        no-mark = (sd.line m u).no-mark;
        no_words = λ z v y. broadcast-word-out k b o x m v ho y (λ l. absurd (omega (arith, z, l))) ∙ (sd.line m u).no_words z v y;
        below = (sd.line m u).below;
        proper = (sd.line m u).proper;
        mark-le = (sd.line m u).mark-le;
        full = (sd.line m u).full;
        clean = λ z l v y. clean' m u z l v y (same-block? (block t m) b) (same? v o);
      })

  -- -- a counter falls

  pub sound-charged : (k : ℕ) → k < slots s → 0 < counter t k → mark t k ≢ 1 → Sound s (charged s t k)
  unfolding charged
  sound-charged k h pos un = choice (Sound s) (eqb (counter t k) 1) (λ e. sound-emptied k h) (λ e. lowered (eqb-false _ _ e))
    where
      lower : Tables
      lower = tables t.blocks (set t.counters k (counter t k - 1)) t.marks t.words t.memory

      c : counter lower k ≡ counter t k - 1
      c = counter-stored s t sd.lengths k (counter t k - 1) h

      line' : counter t k ≢ 1 → (m : ℕ) → m < slots s → Same m k → SlotSoundAt s lower m
      line' d m u (same p q) = rw (p, c) (record {
        bounded = omega (arith, (sd.line k h).bounded);
        no_block = λ z. absurd (omega arith);
        no-mark = λ z. absurd (omega arith);
        no_words = λ z. absurd (omega arith);
        below = λ z. (sd.line k h).below pos;
        proper = λ z. (sd.line k h).proper pos;
        mark-le = (sd.line k h).mark-le;
        full = λ z. absurd (un z);
        clean = λ z l. (sd.line k h).clean z pos;
      })
      line' d m u (apart p q) = reline s (at_set_other t.counters k (counter t k - 1) m p) refl refl (λ o v. refl) (λ l o v. refl) (sd.line m u)

      pos' : (m : ℕ) → 0 < counter lower m → Same m k → 0 < counter t m
      pos' m l (same p q) = rw p pos
      pos' m l (apart p q) = rw (at_set_other t.counters k (counter t k - 1) m p) at l

      lowered : counter t k ≢ 1 → Sound s lower
      lowered d = record {
        lengths = sized-recounted s t sd.lengths k (counter t k - 1);
        line = λ m u. line' d m u (same? m k);
        lone = λ j m u v p g l. sd.lone j m u v p g (pos' m l (same? m k));
      }
