-- A position's number tells its copies, marks and requests served.
use Prim.Native.Nat.{ℕ, zero, suc, ◌+◌, ◌-◌, ◌*◌, ◌/◌, ◌%◌, ◌≤◌, ◌<◌}
use mathlib.Core.Path.{◌≡◌, refl, sym, ap, ◌∙◌}
use mathlib.Core.Logic.{◌≢◌}
use mathlib.Core.Bool.{Bool, true, false, not, ◌&&◌, cond, true≢false}
use mathlib.Core.List.{List}
use native.Mathlib.Omega.{arith}
use native.Mathlib.Nat.{mod-lt}
use lib.ListN.{length}
use lib.Seq.{ext_get_or}
use lib.Dec.{ltb, eqb}
use borrow.Author.Tests.{not-true, eqb-true, eq-eqb, ne_eqb, lt-ltb, le-ltb}
use Rattle.protocol_types.specs.Lists.{at, first, all}
use Rattle.protocol_types.specs.Board.{Fits, slots, line_slot, slot, line_of}
use Rattle.protocol.specs.Rival.{Rival, keeps_at, keeps, empty_cache}
use Rattle.protocol_types.specs.declared.Setup.{Setup}
use Rattle.protocol_types.specs.declared.Block.{Block}
use Rattle.protocol_types.proofs.Laws.{Same, same, apart, same?, Under, under, over, under?, both_true, and-true, first_holds, first-none, all_true, true-all}
use Rattle.protocol_types.proofs.Board.{row-div, line-lt, line_slot-lt, slot_lt, slot-inj, slot_of, processor-lt}
use Rattle.protocol.proofs.Rival.{lines-empty, line-empty}
use Rattle.competitive.proofs.Bound.{held, copy, keeps_at-true, true-keeps_at}
use Rattle.competitive.proofs.Tight.{rival-path}
use Rattle.best_positions.specs.Position.{block_no, marks, state_of, block_state, has, number, weight, digit, served_of, with_digit, in_line, holds_none, table, block_at, filled_at, rival_of}
use Rattle.best_positions.proofs.RivalSound.{mark, Copy, RivalSound}

-- ---- a block's state, seen from processor i

abbrev pub seen_from : ℕ → Bool → Bool → Bool → Bool → ℕ
seen_from i here marked-here there marked-there = cond here (cond there 3 (cond marked-here (4 + i) (1 + i))) (cond there (cond marked-there (5 - i) (2 - i)) 0)

pub state-seen : (s : Setup) (r : Rival) (i : ℕ) (b : Block) → i < 2 → block_state s r b ≡ seen_from i (keeps s r i b) (marks s r i b) (keeps s r (1 - i) b) (marks s r (1 - i) b)
unfolding block_state state_of
state-seen s r zero b h = refl
state-seen s r (suc zero) b h = go (keeps s r 0 b) (marks s r 0 b) (keeps s r 1 b) (marks s r 1 b)
  where
    go : (k m k' m' : Bool) → ◌≡◌ {A = ℕ} (cond k (cond k' 3 (cond m 4 1)) (cond k' (cond m' 5 2) 0)) (cond k' (cond k 3 (cond m' 5 2)) (cond k (cond m 4 1) 0))
    go true m true m' = refl
    go true m false m' = refl
    go false m true m' = refl
    go false m false m' = refl
state-seen s r (suc (suc i)) b h = absurd (omega arith)

pub state-lt : (s : Setup) (r : Rival) (b : Block) → block_state s r b < 6
unfolding block_state state_of
state-lt s r b = go (keeps s r 0 b) (marks s r 0 b) (keeps s r 1 b) (marks s r 1 b)
  where
    go : (k m k' m' : Bool) → cond k (cond k' 3 (cond m 4 1)) (cond k' (cond m' 5 2) 0) < 6
    go true m true m' = omega arith
    go true true false m' = omega arith
    go true false false m' = omega arith
    go false m true true = omega arith
    go false m true false = omega arith
    go false m false m' = omega arith

-- it has a copy in processor i just where i keeps one
pub has-seen : (i : ℕ) → i < 2 → (k m k' m' : Bool) → has i (seen_from i k m k' m') ≡ k
unfolding has
has-seen zero h true true true m' = refl
has-seen zero h true true false m' = refl
has-seen zero h true false true m' = refl
has-seen zero h true false false m' = refl
has-seen zero h false m true true = refl
has-seen zero h false m true false = refl
has-seen zero h false m false m' = refl
has-seen (suc zero) h true true true m' = refl
has-seen (suc zero) h true true false m' = refl
has-seen (suc zero) h true false true m' = refl
has-seen (suc zero) h true false false m' = refl
has-seen (suc zero) h false m true true = refl
has-seen (suc zero) h false m true false = refl
has-seen (suc zero) h false m false m' = refl
has-seen (suc (suc i)) h k m k' m' = absurd (omega arith)

pub has-state : (s : Setup) (r : Rival) (i : ℕ) (b : Block) → i < 2 → has i (block_state s r b) ≡ keeps s r i b
has-state s r i b h = ap (has i) (state-seen s r i b h) ∙ has-seen i h (keeps s r i b) (marks s r i b) (keeps s r (1 - i) b) (marks s r (1 - i) b)

-- ---- numbers and their digits

low : (s : Setup) (r : Rival)
    → (block_state s r (block_no 0) < 6) × (block_state s r (block_no 1) < 6) × (block_state s r (block_no 2) < 6) × (block_state s r (block_no 3) < 6)
low s r = (state-lt s r (block_no 0), state-lt s r (block_no 1), state-lt s r (block_no 2), state-lt s r (block_no 3))

module _ (s : Setup) (r : Rival) (n : ℕ) where
  pub number_lt : n ≤ 24 → number s r n < 32400
  unfolding number
  number_lt h = omega (arith, (low s r).0, (low s r).1, (low s r).2, (low s r).3)

  pub served-number : served_of (number s r n) ≡ n
  unfolding number served_of
  served-number = omega (arith, (low s r).0, (low s r).1, (low s r).2, (low s r).3)

  pub digit-number : (b : ℕ) → b < 4 → digit (number s r n) b ≡ block_state s r (block_no b)
  unfolding number digit weight
  digit-number zero h = omega (arith, (low s r).0, (low s r).1, (low s r).2, (low s r).3)
  digit-number (suc zero) h = omega (arith, (low s r).0, (low s r).1, (low s r).2, (low s r).3)
  digit-number (suc (suc zero)) h = omega (arith, (low s r).0, (low s r).1, (low s r).2, (low s r).3)
  digit-number (suc (suc (suc zero))) h = omega (arith, (low s r).0, (low s r).1, (low s r).2, (low s r).3)
  digit-number (suc (suc (suc (suc b)))) h = absurd (omega arith)

-- a position with one block's state changed, and m requests more served
pub number-with : (s : Setup) (r r' : Rival) (n m b : ℕ) → b < 4 → ((c : ℕ) → c < 4 → c ≢ b → block_state s r' (block_no c) ≡ block_state s r (block_no c))
    → with_digit (number s r n) b (block_state s r' (block_no b)) + 1296 * m ≡ number s r' (n + m)
unfolding number with_digit digit weight
number-with s r r' n m zero h f =
    omega (arith, (low s r).0, (low s r).1, (low s r).2, (low s r).3, f 1 (omega arith) (omega arith), f 2 (omega arith) (omega arith), f 3 (omega arith) (omega arith))
number-with s r r' n m (suc zero) h f =
    omega (arith, (low s r).0, (low s r).1, (low s r).2, (low s r).3, f 0 (omega arith) (omega arith), f 2 (omega arith) (omega arith), f 3 (omega arith) (omega arith))
number-with s r r' n m (suc (suc zero)) h f =
    omega (arith, (low s r).0, (low s r).1, (low s r).2, (low s r).3, f 0 (omega arith) (omega arith), f 1 (omega arith) (omega arith), f 3 (omega arith) (omega arith))
number-with s r r' n m (suc (suc (suc zero))) h f =
    omega (arith, (low s r).0, (low s r).1, (low s r).2, (low s r).3, f 0 (omega arith) (omega arith), f 1 (omega arith) (omega arith), f 2 (omega arith) (omega arith))
number-with s r r' n m (suc (suc (suc (suc b)))) h f = absurd (omega arith)

-- a digit changed leaves the requests served
pub served-with : (u b d : ℕ) → d < 6 → served_of (with_digit u b d) ≡ served_of u
unfolding served_of with_digit digit weight
served-with u zero d l = omega arith
served-with u (suc zero) d l = omega arith
served-with u (suc (suc zero)) d l = omega arith
served-with u (suc (suc (suc b))) d l =
    let w : weight (suc (suc (suc b))) ≡ 216 = rw (ne_eqb (suc (suc (suc b))) 0 (omega arith), ne_eqb (suc (suc (suc b))) 1 (omega arith), ne_eqb (suc (suc (suc b))) 2 (omega arith)) in
    go (weight (suc (suc (suc b)))) w
  where
    go : (w : ℕ) → w ≡ 216 → (u - u / w % 6 * w + d * w) / 1296 ≡ u / 1296
    go w e = rw e (omega arith)

pub digit_lt : (u b : ℕ) → digit u b < 6
unfolding digit
digit_lt u b = mod-lt (u / weight b) (omega arith)

-- ---- tables

table-length : (n j : ℕ) (φ : ℕ → ℕ) → length (table n j φ) ≡ n
table-length zero j φ = refl
table-length (suc n) j φ = ap suc (table-length n (suc j) φ)

table_at : (n j : ℕ) (φ : ℕ → ℕ) (k : ℕ) → k < n → at (table n j φ) k ≡ φ (j + k)
table_at zero j φ k h = absurd (omega arith)
table_at (suc n) j φ zero h = ap φ (omega arith)
table_at (suc n) j φ (suc k) h = table_at n (suc j) φ k (omega arith) ∙ ap φ (omega arith)

table_is : (n : ℕ) (φ : ℕ → ℕ) (l : List ℕ) → length l ≡ n → ((k : ℕ) → k < n → φ k ≡ at l k) → table n 0 φ ≡ l
table_is n φ l e f =
    ext_get_or 0 (table n 0 φ) l (table-length n 0 φ ∙ sym e)
    (λ k h. table_at n 0 φ k (omega (arith, table-length n 0 φ)) ∙ ap φ (omega arith) ∙ f k (omega (arith, table-length n 0 φ)))

-- ---- a rival of two caches and at most four blocks

module _ (s : Setup) (ok : Fits s) (two : s.processors ≡ 2) (small : s.blocks ≤ 4) (r : Rival) (sd : RivalSound s r) where
  -- a marked block has no second holder
  pub no_second : (i j : ℕ) (b : Block) → i < 2 → j < 2 → i ≢ j → keeps s r i b ≡ true → mark r (slot s i b) ≡ 1 → keeps s r j b ≡ true → ⊥
  unfolding keeps
  no_second i j b hi hj d ki m kj =
      sd.lone (slot s i b) (slot s j b) (slot_lt s ok i b (omega arith)) (slot_lt s ok j b (omega arith)) m (λ e. d (sym (slot-inj s ok j i b b e)))
      (keeps_at-true r (slot s j b) b kj).0 ((keeps_at-true r (slot s j b) b kj).1 ∙ sym (keeps_at-true r (slot s i b) b ki).1)

  -- the mark that a state shows, where processor i keeps the block
  pub mark-state : (i : ℕ) (b : Block) → i < 2 → keeps s r i b ≡ true → cond (eqb (block_state s r b) (4 + i)) 1 0 ≡ mark r (slot s i b)
  unfolding marks
  mark-state i b h k = rw (state-seen s r i b h, k) (go (keeps s r (1 - i) b) refl (same? (mark r (slot s i b)) 1))
    where
      go : (c : Bool) → keeps s r (1 - i) b ≡ c → Same (mark r (slot s i b)) 1
          → cond (eqb (cond c 3 (cond (eqb (mark r (slot s i b)) 1) (4 + i) (1 + i))) (4 + i)) 1 0 ≡ mark r (slot s i b)
      go true e (same p q) = absurd (no_second i (1 - i) b h (omega arith) (omega arith) k p e)
      go true e (apart p q) = rw (ne_eqb 3 (4 + i) (omega arith)) (omega (arith, (sd.line (slot s i b) (slot_lt s ok i b (omega arith))).mark-le))
      go false e (same p q) = rw (q, eq-eqb (4 + i) (4 + i) refl) (sym p)
      go false e (apart p q) = rw (q, ne_eqb (1 + i) (4 + i) (omega arith)) (omega (arith, (sd.line (slot s i b) (slot_lt s ok i b (omega arith))).mark-le))

  -- ---- slot k of the tables that a number gives

  module _ (n k : ℕ) (lk : k < slots s) where
    abbrev test : ℕ → Bool
    test c = eqb (line_of s (block_no c)) (k % s.lines) && has (k / s.lines) (digit (number s r n) c)

    side : k / s.lines < 2
    side = omega (arith, processor-lt s ok k lk)

    test-true : (c : ℕ) → c < s.blocks → test c ≡ true → (held r k ≡ 1) × (copy r k ≡ c)
    unfolding keeps
    test-true c l e =
        let h : (eqb (line_of s (block_no c)) (k % s.lines) ≡ true) × (has (k / s.lines) (digit (number s r n) c) ≡ true) = both_true _ _ e in
        let p : slot s (k / s.lines) (block_no c) ≡ k = slot_of s ok k (block_no c) (sym (eqb-true _ _ h.0)) in
        let q : keeps s r (k / s.lines) (block_no c) ≡ true = sym (ap (has (k / s.lines)) (digit-number s r n c (omega arith)) ∙ has-state s r (k / s.lines) (block_no c) side) ∙ h.1 in
        rw p at (keeps_at-true r (slot s (k / s.lines) (block_no c)) (block_no c) q)

    test-copy : held r k ≡ 1 → test (copy r k) ≡ true
    unfolding keeps
    test-copy h =
        let o = sd.line k lk in
        let p : slot s (k / s.lines) (block_no (copy r k)) ≡ k = slot_of s ok k (block_no (copy r k)) (o.proper h) in
        and-true (eq-eqb _ _ (sym (o.proper h)))
        (ap (has (k / s.lines)) (digit-number s r n (copy r k) (omega (arith, o.below h))) ∙ has-state s r (k / s.lines) (block_no (copy r k)) side
        ∙ rw p (true-keeps_at r k (block_no (copy r k)) h refl))

    pub block-found : held r k ≡ 1 → block_at s (number s r n) k ≡ copy r k
    unfolding in_line
    block-found h = go (under? (first s.blocks test) s.blocks)
      where
        go : Under (first s.blocks test) s.blocks → first s.blocks test ≡ copy r k
        go (under l q) = sym (test-true (first s.blocks test) l (first_holds s.blocks test l)).1
        go (over l q) = absurd (true≢false (sym (test-copy h) ∙ first-none s.blocks test l (copy r k) ((sd.line k lk).below h)))

    pub block_none : held r k ≡ 0 → s.blocks ≤ block_at s (number s r n) k
    unfolding in_line
    block_none h = go (under? (first s.blocks test) s.blocks)
      where
        go : Under (first s.blocks test) s.blocks → s.blocks ≤ first s.blocks test
        go (under l q) = absurd (omega (arith, (test-true (first s.blocks test) l (first_holds s.blocks test l)).0))
        go (over l q) = l

    -- a slot is empty just where no block is found
    pub empty-found : not (ltb (block_at s (number s r n) k) s.blocks) ≡ eqb (held r k) 0
    empty-found = go (same? (held r k) 0)
      where
        go : Same (held r k) 0 → not (ltb (block_at s (number s r n) k) s.blocks) ≡ eqb (held r k) 0
        go (same h q) = rw (q, le-ltb (block_at s (number s r n) k) s.blocks (block_none h))
        go (apart h q) =
            let e : held r k ≡ 1 = omega (arith, (sd.line k lk).few) in
            rw (q, block-found e, lt-ltb (copy r k) s.blocks ((sd.line k lk).below e))

    -- the three tables there, where the block found is c
    record Slot (c : ℕ) : Type 0 where
      block-is : cond (ltb c s.blocks) c 0 ≡ copy r k
      held-is : cond (ltb c s.blocks) 1 0 ≡ held r k
      mark-is : cond (ltb c s.blocks) (cond (eqb (digit (number s r n) c) (4 + k / s.lines)) 1 0) 0 ≡ mark r k

    slot_is : Slot (block_at s (number s r n) k)
    unfolding keeps
    slot_is = go (same? (held r k) 1)
      where
        o : Copy s k (held r k) (copy r k) (mark r k)
        o = sd.line k lk

        go : Same (held r k) 1 → Slot (block_at s (number s r n) k)
        go (same h q) =
            let p : slot s (k / s.lines) (block_no (copy r k)) ≡ k = slot_of s ok k (block_no (copy r k)) (o.proper h) in
            let t : ltb (copy r k) s.blocks ≡ true = lt-ltb (copy r k) s.blocks (o.below h) in
            rw (block-found h)
            (record {
              block-is = rw t;
              held-is = rw t (sym h);
              mark-is =
                  rw t
                  (ap (λ z. cond (eqb z (4 + k / s.lines)) 1 0) (digit-number s r n (copy r k) (omega (arith, o.below h)))
                  ∙ mark-state (k / s.lines) (block_no (copy r k)) side (rw p (true-keeps_at r k (block_no (copy r k)) h refl)) ∙ ap (mark r) p);
            })
        go (apart d q) =
            let h : held r k ≡ 0 = omega (arith, o.few) in
            let t : ltb (block_at s (number s r n) k) s.blocks ≡ false = le-ltb (block_at s (number s r n) k) s.blocks (block_none h) in
            record { block-is = rw t (sym (o.no_block h)); held-is = rw t (sym h); mark-is = rw t (sym (o.no-mark h)) }

  -- ---- and so the whole

  pub rival-back : (n : ℕ) → rival_of s (number s r n) ≡ r
  unfolding rival_of filled_at
  rival-back n =
      rival-path (table_is (slots s) _ r.blocks sd.sized.blocks (λ k l. (slot_is n k l).block-is))
      (table_is (slots s) _ r.held sd.sized.held (λ k l. (slot_is n k l).held-is))
      (table_is (slots s) _ r.marks sd.sized.marks (λ k l. (slot_is n k l).mark-is))

  -- ---- no digit shows a copy in processor i just where its cache is empty

  module _ (n i : ℕ) (hi : i < 2) where
    abbrev spare : ℕ → Bool
    spare b = not (has i (digit (number s r n) b))

    none-empty : all 4 spare ≡ true → empty_cache s r i ≡ true
    none-empty e = lines-empty s r i (λ l u. go l u (same? (held r (line_slot s i l)) 0))
      where
        go : (l : ℕ) → l < s.lines → Same (held r (line_slot s i l)) 0 → held r (line_slot s i l) ≡ 0
        go l u (same p q) = p
        go l u (apart p q) =
            let in-slots : line_slot s i l < slots s = line_slot-lt s ok i l (omega arith) u in
            let o = sd.line (line_slot s i l) in-slots in
            let h : held r (line_slot s i l) ≡ 1 = omega (arith, o.few) in
            let shows : has (line_slot s i l / s.lines) (digit (number s r n) (copy r (line_slot s i l))) ≡ true =
            (both_true (eqb (line_of s (block_no (copy r (line_slot s i l)))) (line_slot s i l % s.lines))
            (has (line_slot s i l / s.lines) (digit (number s r n) (copy r (line_slot s i l)))) (test-copy n (line_slot s i l) in-slots h)).1 in
            absurd
            (true≢false
            (sym (rw (row-div i s.lines l u) at shows)
            ∙ not-true (has i (digit (number s r n) (copy r (line_slot s i l)))) (all_true 4 spare e (copy r (line_slot s i l)) (omega (arith, o.below h)))))

    not-kept : empty_cache s r i ≡ true → (b : ℕ) → keeps s r i (block_no b) ≡ false
    unfolding keeps keeps_at slot
    not-kept e b = rw (line-empty s r i e (line_of s (block_no b)) (line-lt s ok (block_no b)))

    empty-none : empty_cache s r i ≡ true → all 4 spare ≡ true
    empty-none e = true-all 4 spare (λ b l. ap not (ap (has i) (digit-number s r n b l) ∙ has-state s r i (block_no b) hi ∙ not-kept e b))

    pub none-held : holds_none (number s r n) i ≡ empty_cache s r i
    unfolding holds_none
    none-held = go (all 4 spare) (empty_cache s r i) refl refl
      where
        go : (a b : Bool) → all 4 spare ≡ a → empty_cache s r i ≡ b → a ≡ b
        go true b p q = sym (none-empty p) ∙ q
        go false true p q = sym p ∙ empty-none q
        go false false p q = refl
