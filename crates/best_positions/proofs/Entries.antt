-- What an entry does to a position's number is what it does to the rival's copies.
use Prim.Native.Nat.{ℕ, zero, suc, ◌+◌, ◌-◌, ◌*◌, ◌/◌, ◌%◌, ◌≤◌, ◌<◌}
use mathlib.Core.Path.{◌≡◌, refl, sym, ap, ◌∙◌}
use mathlib.Core.Logic.{◌≢◌}
use mathlib.Core.Bool.{Bool, true, false, not, ◌&&◌, cond, true≢false}
use mathlib.Core.List.{List, [], ◌∷◌}
use native.Mathlib.Omega.{arith}
use lib.ListN.{length, set, drop, length-drop}
use lib.Dec.{ltb, eqb}
use borrow.Author.Tests.{eqb-true, eq-eqb, ne_eqb, lt-ltb, le-ltb}
use Rattle.protocol_types.specs.Lists.{at, other}
use Rattle.protocol_types.specs.Refusals.{no_refusal, line_in_use, block_not_held, drop_of_marked, no_such_block, broadcast_without_write, completion_not_held, cache_not_empty}
use Rattle.protocol_types.specs.Board.{Fits, slots, slot, block_of, line_of, variables, fetch_price, write_back_price}
use Rattle.protocol_types.specs.Conditions.{Named, Valid, AllValid}
use Rattle.protocol.specs.Accounts.{cycles}
use Rattle.protocol.specs.Rival.{Rival, rival, keeps_at, keeps, shared, empty_cache, unmarked, rival_fetched, rival_written_back, rival_dropped, completed_marks, rival_completed, completion_by, completion_cycles, played, cost, refusal, move_refusal, ready_refusal, completion_refusal}
use Rattle.protocol_types.specs.declared.Setup.{Setup}
use Rattle.protocol_types.specs.declared.Variable.{Variable}
use Rattle.protocol_types.specs.declared.Block.{Block}
use Rattle.protocol_types.specs.declared.Request.{Request}
use Rattle.protocol_types.specs.declared.Operation.{Operation}
use Rattle.protocol_types.specs.declared.Operation.TheVariants.{Read, Write, Clear}
use Rattle.protocol_types.specs.declared.Entry.{Entry}
use Rattle.protocol_types.specs.declared.Entry.TheVariants.{Fetch, WriteBack, Drop, Complete, CompleteByBroadcast}
use Rattle.protocol_types.proofs.Laws.{Same, same, apart, same?, Under, under, over, under?, choice, chosen-zero, other-found, at_set_same, at_set_other, at-set-zero}
use Rattle.protocol_types.proofs.Board.{row-div, line-lt, slot_lt, slot-inj, slot-proper, block-lt}
use Rattle.protocol_types.proofs.Conditions.{named-passes}
use Rattle.protocol.proofs.Rival.{Completable, move-legal, completion-legal}
use Rattle.competitive.proofs.Bound.{held, copy, keeps_at-true, true-keeps_at, shared-some}
use Rattle.best_positions.specs.Position.{block_no, marks, state_of, block_state, has, number, digit, served_of, with_digit, in_line, holds_none, asked_by, asked, asked_all, move_legal, fetched_state, written_back_state, dropped_state, moved_state, move_price, completion_legal, completed_state, completed, completion_price, moving_processor, moved_block, is_drop, entry_of, legal_at, next_at, price_at}
use Rattle.best_positions.specs.Best.{served_by}
use Rattle.best_positions.proofs.RivalSound.{mark, RivalSound}
use Rattle.best_positions.proofs.Coding.{seen_from, state-seen, has-state, digit-number, served-number, number-with, no_second, mark-state, empty-found, none-held}

-- ---- a block's state, where its copies and marks stay

state-same : (s : Setup) (r r' : Rival) (c : Block) → ((j : ℕ) → j < 2 → keeps s r' j c ≡ keeps s r j c) → ((j : ℕ) → j < 2 → keeps s r j c ≡ true → marks s r' j c ≡ marks s r j c)
    → block_state s r' c ≡ block_state s r c
unfolding block_state state_of
state-same s r r' c f g = rw (f 0 (omega arith), f 1 (omega arith)) (go (keeps s r 0 c) (keeps s r 1 c) (g 0 (omega arith)) (g 1 (omega arith)))
  where
    go : (k k' : Bool) → (k ≡ true → marks s r' 0 c ≡ marks s r 0 c) → (k' ≡ true → marks s r' 1 c ≡ marks s r 1 c)
        → ◌≡◌ {A = ℕ} (cond k (cond k' 3 (cond (marks s r' 0 c) 4 1)) (cond k' (cond (marks s r' 1 c) 5 2) 0)) (cond k (cond k' 3 (cond (marks s r 0 c) 4 1)) (cond k' (cond (marks s r 1 c) 5 2) 0))
    go true true a b = refl
    go true false a b = rw (a refl)
    go false true a b = rw (b refl)
    go false false a b = refl

keeps_at-same : (r r' : Rival) (m : ℕ) (c : Block) → held r' m ≡ held r m → copy r' m ≡ copy r m → keeps_at r' m c ≡ keeps_at r m c
unfolding keeps_at
keeps_at-same r r' m c h e = rw (h, e)

not-kept : (r : Rival) (k : ℕ) (c : Block) → (held r k ≡ 1 → copy r k ≢ c.0) → keeps_at r k c ≡ false
not-kept r k c f = go (keeps_at r k c) refl
  where
    go : (t : Bool) → keeps_at r k c ≡ t → t ≡ false
    go true e = let h = keeps_at-true r k c e in absurd (f h.0 h.1)
    go false e = refl

-- only slot k changes, and it holds no block but b before and after; marks of b may change
module _ (s : Setup) (r r' : Rival) (k : ℕ) (b : Block)
    (eh : (m : ℕ) → m ≢ k → held r' m ≡ held r m) (ec : (m : ℕ) → m ≢ k → copy r' m ≡ copy r m) (em : (m : ℕ) → m ≢ k → copy r m ≢ b.0 → mark r' m ≡ mark r m)
    (old : held r k ≡ 1 → copy r k ≡ b.0) (new : held r' k ≡ 1 → copy r' k ≡ b.0) where
  others_same : (c : Block) → c.0 ≢ b.0 → block_state s r' c ≡ block_state s r c
  unfolding keeps marks
  others_same c d = state-same s r r' c (λ j h. keep j (same? (slot s j c) k)) (λ j h e. mark-same j e (same? (slot s j c) k))
    where
      none_old : keeps_at r k c ≡ false
      none_old = not-kept r k c (λ h e. d (sym e ∙ old h))

      keep : (j : ℕ) → Same (slot s j c) k → keeps_at r' (slot s j c) c ≡ keeps_at r (slot s j c) c
      keep j (same p q) = rw p (not-kept r' k c (λ h e. d (sym e ∙ new h)) ∙ sym none_old)
      keep j (apart p q) = keeps_at-same r r' (slot s j c) c (eh (slot s j c) p) (ec (slot s j c) p)

      mark-same : (j : ℕ) → keeps_at r (slot s j c) c ≡ true → Same (slot s j c) k → eqb (mark r' (slot s j c)) 1 ≡ eqb (mark r (slot s j c)) 1
      mark-same j e (same p q) = absurd (true≢false (sym e ∙ rw p none_old))
      mark-same j e (apart p q) = rw (em (slot s j c) p (λ z. d (sym (keeps_at-true r (slot s j c) c e).1 ∙ z)))

unmarked-other : (s : Setup) (r : Rival) (b : Block) (n m : ℕ) → copy r m ≢ b.0 → at (unmarked s r b n) m ≡ mark r m
unfolding keeps
unmarked-other s r b zero m d = refl
unmarked-other s r b (suc n) m d =
    choice (λ z. at z m ≡ mark r m) (keeps_at r (slot s n b) b) (λ e. go e (unmarked-other s r b n m d) (same? m (slot s n b))) (λ e. unmarked-other s r b n m d)
  where
    go : keeps_at r (slot s n b) b ≡ true → at (unmarked s r b n) m ≡ mark r m → Same m (slot s n b) → at (set (unmarked s r b n) (slot s n b) 0) m ≡ mark r m
    go e f (same p q) = absurd (d (ap (copy r) p ∙ (keeps_at-true r (slot s n b) b e).1))
    go e f (apart p q) = at_set_other (unmarked s r b n) (slot s n b) 0 m p ∙ f

-- ---- a block's state after an entry of processor i, as both see it

written-seen : (i : ℕ) → i < 2 → (m k' m' m'' : Bool) → written_back_state i (seen_from i true m k' m') ≡ seen_from i true false k' m''
unfolding written_back_state
written-seen zero h m true m' m'' = refl
written-seen zero h true false m' m'' = refl
written-seen zero h false false m' m'' = refl
written-seen (suc zero) h m true m' m'' = refl
written-seen (suc zero) h true false m' m'' = refl
written-seen (suc zero) h false false m' m'' = refl
written-seen (suc (suc i)) h m k' m' m'' = absurd (omega arith)

fetched-seen : (i : ℕ) → i < 2 → (m k' m' m'' : Bool) → fetched_state i (seen_from i false m k' m') ≡ seen_from i true false k' m''
unfolding fetched_state
fetched-seen zero h m true true m'' = refl
fetched-seen zero h m true false m'' = refl
fetched-seen zero h m false m' m'' = refl
fetched-seen (suc zero) h m true true m'' = refl
fetched-seen (suc zero) h m true false m'' = refl
fetched-seen (suc zero) h m false m' m'' = refl
fetched-seen (suc (suc i)) h m k' m' m'' = absurd (omega arith)

dropped-seen : (i : ℕ) → i < 2 → (m k' m' m'' m''' : Bool) → (k' ≡ true → m''' ≡ false) → dropped_state i (seen_from i true m k' m') ≡ seen_from i false m'' k' m'''
unfolding dropped_state
dropped-seen zero h m true m' m'' m''' f = rw (f refl)
dropped-seen zero h true false m' m'' m''' f = refl
dropped-seen zero h false false m' m'' m''' f = refl
dropped-seen (suc zero) h m true m' m'' m''' f = rw (f refl)
dropped-seen (suc zero) h true false m' m'' m''' f = refl
dropped-seen (suc zero) h false false m' m'' m''' f = refl
dropped-seen (suc (suc i)) h m k' m' m'' m''' f = absurd (omega arith)

-- a write in a shared block leaves it, in a lone one marks it
shared_seen : (i : ℕ) → i < 2 → (m k' m' : Bool) → eqb (seen_from i true m k' m') 3 ≡ k'
shared_seen zero h m true m' = refl
shared_seen zero h true false m' = refl
shared_seen zero h false false m' = refl
shared_seen (suc zero) h m true m' = refl
shared_seen (suc zero) h true false m' = refl
shared_seen (suc zero) h false false m' = refl
shared_seen (suc (suc i)) h m k' m' = absurd (omega arith)

-- ---- the number of a read or a write tells its processor, its block and whether it is a write

record Access (a i b : ℕ) (w : Bool) : Type 0 where
  who : a % 2 ≡ i
  what : a / 4 ≡ b
  writes : eqb (a / 2 % 2) 1 ≡ w
  below : ltb a 16 ≡ true

read-access : (i b : ℕ) → i < 2 → b < 4 → Access (4 * b + i) i b false
read-access i b h l = record { who = omega arith; what = omega arith; writes = ne_eqb ((4 * b + i) / 2 % 2) 1 (omega arith); below = lt-ltb (4 * b + i) 16 (omega arith) }

write-access : (i b : ℕ) → i < 2 → b < 4 → Access (4 * b + 2 + i) i b true
write-access i b h l = record { who = omega arith; what = omega arith; writes = eq-eqb ((4 * b + 2 + i) / 2 % 2) 1 (omega arith); below = lt-ltb (4 * b + 2 + i) 16 (omega arith) }

-- ---- agreement of an entry's legality, its end and its price

pub record Agrees (s : Setup) (r : Rival) (n : ℕ) (ps : List Request) (e : Entry) (legal : Bool) (next price : ℕ) : Type 0 where
  pub legal-is : legal ≡ eqb (refusal s r ps e) 0
  pub next-is : refusal s r ps e ≡ 0 → next ≡ number s (played s r ps e) (served_by n e)
  pub price-is : refusal s r ps e ≡ 0 → price ≡ cycles (cost s r ps e)

module _ (s : Setup) (ok : Fits s) (two : s.processors ≡ 2) (small : s.blocks ≤ 4) (r : Rival) (sd : RivalSound s r) (n : ℕ) where
  abbrev here : ℕ
  here = number s r n

  -- ---- moves of processor i and block b

  module _ (ps : List Request) (i b : ℕ) (hi : i < 2) (hb : b < 4) where
    abbrev B : Block
    B = block_no b

    abbrev k : ℕ
    k = slot s i B

    abbrev d : ℕ
    d = digit here b

    d-is : d ≡ block_state s r B
    d-is = digit-number s r n b hb

    has-is : has i d ≡ keeps s r i B
    has-is = ap (has i) d-is ∙ has-state s r i B hi

    k_lt : k < slots s
    k_lt = slot_lt s ok i B (omega arith)

    other-slot : slot s (1 - i) B ≢ k
    other-slot e = omega (arith, slot-inj s ok (1 - i) i B B e)

    move-is : (x : ℕ) (t : Bool) → t ≡ eqb x 0 → ltb b s.blocks && t ≡ eqb (move_refusal s i B x) 0
    unfolding move_refusal
    move-is x t e = rw (lt-ltb i s.processors (omega arith)) (go (ltb b s.blocks))
      where
        go : (c : Bool) → c && t ≡ eqb (cond c x no_such_block) 0
        go true = e
        go false = refl

    -- the line of block b at i is empty just where nothing is found in it
    line-is : not (ltb (in_line s here i (line_of s B)) s.blocks) ≡ eqb (held r k) 0
    unfolding slot
    line-is =
        let p : k / s.lines ≡ i = row-div i s.lines (line_of s B) (line-lt s ok B) in
        let q : k % s.lines ≡ line_of s B = slot-proper s ok i B in
        rw (p, q) at (empty-found s ok two small r sd n k k_lt)

    -- the state of b once i's copy and mark, and the other's mark, are changed
    state-then : (r' : Rival) (x y : Bool) → keeps s r' i B ≡ x → marks s r' i B ≡ y → held r' (slot s (1 - i) B) ≡ held r (slot s (1 - i) B) → copy r' (slot s (1 - i) B) ≡ copy r (slot s (1 - i) B)
        → block_state s r' B ≡ seen_from i x y (keeps s r (1 - i) B) (marks s r' (1 - i) B)
    unfolding keeps
    state-then r' x y e f h c = state-seen s r' i B hi ∙ rw (e, f, keeps_at-same r r' (slot s (1 - i) B) B h c)

    step : (r' : Rival) (d' : ℕ) → block_state s r' B ≡ d' → ((c : Block) → c.0 ≢ b → block_state s r' c ≡ block_state s r c) → with_digit here b d' ≡ number s r' n
    step r' d' e f = rw (← e) (pad (number-with s r r' n 0 b hb (λ c l x. f (block_no c) x)))
      where
        pad : with_digit here b (block_state s r' B) + 1296 * 0 ≡ number s r' (n + 0) → with_digit here b (block_state s r' B) ≡ number s r' n
        pad p = (omega arith) ∙ p ∙ ap (number s r') (omega arith)

    -- where i keeps b, its slot holds nothing else
    copy_is : keeps s r i B ≡ true → held r k ≡ 1 → copy r k ≡ b
    unfolding keeps
    copy_is e h = (keeps_at-true r k B e).1

    unmarked-then : (l : List ℕ) → eqb (at (set l k 0) k) 1 ≡ false
    unmarked-then l = rw (at-set-zero l k)

    -- ---- a write-back

    pub agrees-write_back : keeps s r i B ≡ true → Agrees s r n ps (WriteBack i B) (ltb b s.blocks && true) (with_digit here b (written_back_state i d)) (write_back_price s)
    unfolding rival_written_back marks keeps keeps_at
    agrees-write_back e = record {
      legal-is = move-is (cond (keeps s r i B) no_refusal block_not_held) true (rw e);
      next-is =
          λ h. step (rival_written_back s r i B) (written_back_state i d) state
          (others_same s r (rival_written_back s r i B) k B (λ m x. refl) (λ m x. refl) (λ m x y. at_set_other r.marks k 0 m x) (copy_is e) (copy_is e));
      price-is = λ h. omega arith;
    }
      where
        state : block_state s (rival_written_back s r i B) B ≡ written_back_state i d
        state =
            state-then (rival_written_back s r i B) true false e (unmarked-then r.marks) refl refl
            ∙ sym (ap (written_back_state i) (d-is ∙ state-seen s r i B hi ∙ ap (λ z. seen_from i z (marks s r i B) (keeps s r (1 - i) B) (marks s r (1 - i) B)) e)
            ∙ written-seen i hi (marks s r i B) (keeps s r (1 - i) B) (marks s r (1 - i) B) (marks s (rival_written_back s r i B) (1 - i) B))

    -- ---- a fetch

    pub agrees-fetch : keeps s r i B ≡ false
        → Agrees s r n ps (Fetch i B) (ltb b s.blocks && not (ltb (in_line s here i (line_of s B)) s.blocks)) (with_digit here b (fetched_state i d)) (fetch_price s)
    unfolding rival_fetched marks keeps
    agrees-fetch e = record {
      legal-is = move-is (cond (eqb (held r k) 0) no_refusal line_in_use) _ (line-is ∙ zero-if (eqb (held r k) 0));
      next-is =
          λ h. step after (fetched_state i d) state
          (others_same s r after k B (λ m x. at_set_other r.held k 1 m x) (λ m x. at_set_other r.blocks k b m x)
          (λ m x y. at_set_other (unmarked s r B s.processors) k 0 m x ∙ unmarked-other s r B s.processors m y)
          (λ x. absurd (omega (arith, empty h))) (λ x. block-is));
      price-is = λ h. omega arith;
    }
      where
        after : Rival
        after = rival_fetched s r i B

        zero-if : (c : Bool) → c ≡ eqb (cond c no_refusal line_in_use) 0
        zero-if true = refl
        zero-if false = refl

        empty : refusal s r ps (Fetch i B) ≡ 0 → held r k ≡ 0
        empty h = eqb-true _ _ (chosen-zero (eqb (held r k) 0) no_refusal line_in_use (omega arith) (move-legal s i B _ h).rest).0

        block-is : at (set r.blocks k b) k ≡ b
        block-is = at_set_same r.blocks k b (omega (arith, sd.sized.blocks, k_lt))

        held-is : at (set r.held k 1) k ≡ 1
        held-is = at_set_same r.held k 1 (omega (arith, sd.sized.held, k_lt))

        state : block_state s after B ≡ fetched_state i d
        state =
            state-then after true false (true-keeps_at after k B held-is block-is) (unmarked-then (unmarked s r B s.processors))
            (at_set_other r.held k 1 (slot s (1 - i) B) other-slot) (at_set_other r.blocks k b (slot s (1 - i) B) other-slot)
            ∙ sym (ap (fetched_state i) (d-is ∙ state-seen s r i B hi ∙ ap (λ z. seen_from i z (marks s r i B) (keeps s r (1 - i) B) (marks s r (1 - i) B)) e)
            ∙ fetched-seen i hi (marks s r i B) (keeps s r (1 - i) B) (marks s r (1 - i) B) (marks s after (1 - i) B))

    -- ---- a drop

    pub agrees-drop : Agrees s r n ps (Drop i B) (ltb b s.blocks && (has i d && not (eqb d (4 + i)))) (with_digit here b (dropped_state i d)) 0
    unfolding rival_dropped marks keeps
    agrees-drop = record {
      legal-is =
          move-is (cond (keeps s r i B) (cond (eqb (mark r k) 0) no_refusal drop_of_marked) block_not_held) _
          (ap (λ z. z && not (eqb d (4 + i))) has-is ∙ both (keeps s r i B) refl);
      next-is =
          λ h. step after (dropped_state i d) (state (keeps-is h))
          (others_same s r after k B (λ m x. at_set_other r.held k 0 m x) (λ m x. at_set_other r.blocks k 0 m x) (λ m x y. at_set_other r.marks k 0 m x)
          (copy_is (keeps-is h)) (λ x. absurd (omega (arith, at-set-zero r.held k))));
      price-is = λ h. omega arith;
    }
      where
        after : Rival
        after = rival_dropped s r i B

        mark-is : (c : Bool) → cond c 1 0 ≡ mark r k → not c ≡ eqb (cond (eqb (mark r k) 0) no_refusal drop_of_marked) 0
        mark-is true p = rw (← p)
        mark-is false p = rw (← p)

        both : (c : Bool) → keeps_at r k B ≡ c → c && not (eqb d (4 + i)) ≡ eqb (cond c (cond (eqb (mark r k) 0) no_refusal drop_of_marked) block_not_held) 0
        both true e = mark-is (eqb d (4 + i)) (ap (λ z. cond (eqb z (4 + i)) 1 0) d-is ∙ mark-state s ok two small r sd i B hi e)
        both false e = refl

        keeps-is : refusal s r ps (Drop i B) ≡ 0 → keeps_at r k B ≡ true
        keeps-is h = (chosen-zero (keeps_at r k B) (cond (eqb (mark r k) 0) no_refusal drop_of_marked) block_not_held (omega arith) (move-legal s i B _ h).rest).0

        gone : keeps_at after k B ≡ false
        gone = not-kept after k B (λ h. absurd (omega (arith, at-set-zero r.held k)))

        -- the other copy, of a block that i keeps, is unmarked
        lone : keeps_at r k B ≡ true → keeps_at r (slot s (1 - i) B) B ≡ true → eqb (mark after (slot s (1 - i) B)) 1 ≡ false
        lone e f = go (same? (mark r (slot s (1 - i) B)) 1)
          where
            go : Same (mark r (slot s (1 - i) B)) 1 → eqb (mark after (slot s (1 - i) B)) 1 ≡ false
            go (same p q) = absurd (no_second s ok two small r sd (1 - i) i B (omega arith) hi (omega arith) f p e)
            go (apart p q) = rw (at_set_other r.marks k 0 (slot s (1 - i) B) other-slot) q

        state : keeps_at r k B ≡ true → block_state s after B ≡ dropped_state i d
        state e =
            state-then after false false gone (unmarked-then r.marks) (at_set_other r.held k 0 (slot s (1 - i) B) other-slot) (at_set_other r.blocks k 0 (slot s (1 - i) B) other-slot)
            ∙ sym (ap (dropped_state i) (d-is ∙ state-seen s r i B hi ∙ ap (λ z. seen_from i z (marks s r i B) (keeps s r (1 - i) B) (marks s r (1 - i) B)) e)
            ∙ dropped-seen i hi (marks s r i B) (keeps s r (1 - i) B) (marks s r (1 - i) B) false (marks s after (1 - i) B) (lone e))

    -- ---- any of the three: a drop where c, else a write-back where the block is held

    pub agrees-move : (c t : Bool) → has i d ≡ t
        → Agrees s r n ps (cond c (Drop i B) (cond t (WriteBack i B) (Fetch i B)))
        (ltb b s.blocks && cond c (t && not (eqb d (4 + i))) (cond t true (not (ltb (in_line s here i (line_of s B)) s.blocks))))
        (with_digit here b (cond c (dropped_state i d) (cond t (written_back_state i d) (fetched_state i d)))) (cond c 0 (cond t (write_back_price s) (fetch_price s)))
    agrees-move true t e = rw (← e) agrees-drop
    agrees-move false true e = agrees-write_back (sym has-is ∙ e)
    agrees-move false false e = agrees-fetch (sym has-is ∙ e)

  -- ---- the completion of an operation of processor i

  one_more : here + 1296 ≡ number s r (suc n)
  unfolding number
  one_more = omega arith

  module _ (i : ℕ) (hi : i < 2) where
    -- where i keeps a block, it is shared if the other does too
    shared-is : (T : Block) → shared s r i T ≡ keeps s r (1 - i) T
    unfolding shared keeps
    shared-is T = go (under? (other s.processors i (λ j. keeps_at r (slot s j T) T)) s.processors) (keeps_at r (slot s (1 - i) T) T) refl
      where
        one : other s.processors i (λ j. keeps_at r (slot s j T) T) < s.processors → keeps_at r (slot s (1 - i) T) T ≡ true
        one l =
            let f = other-found s.processors i (λ j. keeps_at r (slot s j T) T) l in
            let p : other s.processors i (λ j. keeps_at r (slot s j T) T) ≡ 1 - i = omega (arith, f.differs) in
            rw p at f.passes

        go : Under (other s.processors i (λ j. keeps_at r (slot s j T) T)) s.processors → (c : Bool) → keeps_at r (slot s (1 - i) T) T ≡ c
            → ltb (other s.processors i (λ j. keeps_at r (slot s j T) T)) s.processors ≡ c
        go (under l p) c e = p ∙ sym (one l) ∙ e
        go (over l p) true e = absurd (true≢false (sym (shared-some s r i (1 - i) T (omega arith) (omega arith) e) ∙ p))
        go (over l p) false e = p

    -- ---- a read or a write in block T

    module _ (T : Block) (t-lt : T.0 < 4) (a : ℕ) (w : Bool) (is : Access a i T.0 w) where
      e-is : digit here (a / 4) ≡ block_state s r T
      e-is = ap (digit here) is.what ∙ digit-number s r n T.0 t-lt

      holds-is : has (a % 2) (digit here (a / 4)) ≡ keeps s r i T
      holds-is = rw (is.who, e-is) (has-state s r i T hi)

      access-legal : (c : Bool) → completion_legal here a c ≡ keeps s r i T && cond c w true
      unfolding completion_legal
      access-legal c = rw is.below (λ x. holds-is x && cond c (is.writes x) true)

      both_is : keeps s r i T ≡ true → eqb (digit here (a / 4)) 3 ≡ shared s r i T
      both_is k =
          ap (λ z. eqb z 3) (e-is ∙ state-seen s r i T hi ∙ ap (λ z. seen_from i z (marks s r i T) (keeps s r (1 - i) T) (marks s r (1 - i) T)) k)
          ∙ shared_seen i hi (marks s r i T) (keeps s r (1 - i) T) (marks s r (1 - i) T) ∙ sym (shared-is T)

      access-price : (c : Bool) → keeps s r i T ≡ true → completion_price here a c ≡ cond w (cond c 1 (cond (shared s r i T) 1 0)) 0
      unfolding completion_price
      access-price c k = rw is.below ((λ x. cond (is.writes x && cond c true (both_is k x)) 1 0) ∙ go w c (shared s r i T))
        where
          go : (w c h : Bool) → ◌≡◌ {A = ℕ} (cond (w && cond c true h) 1 0) (cond w (cond c 1 (cond h 1 0)) 0)
          go true true h = refl
          go true false h = refl
          go false c h = refl

      -- the mark that a lone write sets
      lone-write : keeps s r i T ≡ true → shared s r i T ≡ false
          → with_digit here T.0 (4 + i) + 1296 ≡ number s (rival r.blocks r.held (set r.marks (slot s i T) 1)) (suc n)
      unfolding keeps marks
      lone-write k h =
          more
          (number-with s r after n 1 T.0 t-lt
          (λ c l x. others_same s r after (slot s i T) T (λ m y. refl) (λ m y. refl) (λ m y z. at_set_other r.marks (slot s i T) 1 m y) (λ y. kept.1) (λ y. kept.1) (block_no c) x))
        where
          after : Rival
          after = rival r.blocks r.held (set r.marks (slot s i T) 1)

          kept : (held r (slot s i T) ≡ 1) × (copy r (slot s i T) ≡ T.0)
          kept = keeps_at-true r (slot s i T) T k

          mark-is : eqb (at (set r.marks (slot s i T) 1) (slot s i T)) 1 ≡ true
          mark-is = rw (at_set_same r.marks (slot s i T) 1 (omega (arith, sd.sized.marks, slot_lt s ok i T (omega arith))))

          state : block_state s after T ≡ 4 + i
          state =
              let lone : keeps s after (1 - i) T ≡ false = keeps_at-same r after (slot s (1 - i) T) T refl refl ∙ sym (shared-is T) ∙ h in
              state-seen s after i T hi ∙ (λ x. seen_from i (true-keeps_at after (slot s i T) T kept.0 kept.1 x) (mark-is x) (lone x) (marks s after (1 - i) T))

          more : with_digit here T.0 (block_state s after T) + 1296 * 1 ≡ number s after (n + 1) → with_digit here T.0 (4 + i) + 1296 ≡ number s after (suc n)
          more p = ap (λ z. with_digit here T.0 z + 1296) (sym state) ∙ p ∙ ap (number s after) (omega arith)

      no-mark : with_digit here T.0 (block_state s r T) + 1296 ≡ number s r (suc n)
      no-mark = more (number-with s r r n 1 T.0 t-lt (λ c l x. refl))
        where
          more : with_digit here T.0 (block_state s r T) + 1296 * 1 ≡ number s r (n + 1) → with_digit here T.0 (block_state s r T) + 1296 ≡ number s r (suc n)
          more p = p ∙ ap (number s r) (omega arith)

      access-next : keeps s r i T ≡ true
          → completed here a false ≡ number s (rival r.blocks r.held (cond w (cond (shared s r i T) r.marks (set r.marks (slot s i T) 1)) r.marks)) (suc n)
      unfolding completed completed_state
      access-next k =
          rw is.below
          ((λ x. with_digit here (is.what x) (cond (is.writes x && not (both_is k x)) (4 + is.who x) (e-is x)) + 1296) ∙ go w (shared s r i T) refl)
        where
          go : (w c : Bool) → shared s r i T ≡ c
              → with_digit here T.0 (cond (w && not c) (4 + i) (block_state s r T)) + 1296
              ≡ number s (rival r.blocks r.held (cond w (cond c r.marks (set r.marks (slot s i T) 1)) r.marks)) (suc n)
          go true true e = no-mark
          go true false e = lone-write k e
          go false c e = no-mark

    -- ---- a clear

    clear-high : ltb (16 + i) 16 ≡ false
    clear-high = le-ltb (16 + i) 16 (omega arith)

    clear-legal : (c : Bool) → completion_legal here (16 + i) c ≡ eqb (ready_refusal s r i Clear c) 0
    unfolding completion_legal
    clear-legal c = rw clear-high (ap (λ z. not c && z) (ap (holds_none here) who ∙ none-held s ok two small r sd n i hi) ∙ go c (empty_cache s r i))
      where
        who : (16 + i) % 2 ≡ i
        who = omega arith

        go : (c e : Bool) → not c && e ≡ eqb (cond (not c) (cond e no_refusal cache_not_empty) broadcast_without_write) 0
        go true e = refl
        go false true = refl
        go false false = refl

    clear_next : completed here (16 + i) false ≡ number s r (suc n)
    unfolding completed
    clear_next = rw clear-high one_more

    clear-price : (c : Bool) → completion_price here (16 + i) c ≡ 0
    unfolding completion_price
    clear-price c = rw clear-high

    -- ---- each operation

    in_four : (v : Variable) → v.0 < variables s → (block_of s v).0 < 4
    in_four v h = omega (arith, block-lt s ok v h)

    -- the number of a read and of a write
    reads : (v : Variable) → v.0 < variables s → Access (4 * (block_of s v).0 + i) i (block_of s v).0 false
    reads v h = read-access i (block_of s v).0 hi (in_four v h)

    writes : (v : Variable) → v.0 < variables s → Access (4 * (block_of s v).0 + 2 + i) i (block_of s v).0 true
    writes v h = write-access i (block_of s v).0 hi (in_four v h)

    legal-operation : (o : Operation) → Named s o → (c : Bool) → completion_legal here (asked_by s i o) c ≡ eqb (ready_refusal s r i o c) 0
    legal-operation (Read v) h c = access-legal (block_of s v) (in_four v h) (asked_by s i (Read v)) false (reads v h) c ∙ go (keeps s r i (block_of s v)) c
      where
        go : (k c : Bool) → k && cond c false true ≡ eqb (cond (not c) (cond k no_refusal completion_not_held) broadcast_without_write) 0
        go true true = refl
        go true false = refl
        go false true = refl
        go false false = refl
    legal-operation (Write v x) h c = access-legal (block_of s v) (in_four v h) (asked_by s i (Write v x)) true (writes v h) c ∙ go (keeps s r i (block_of s v)) c
      where
        go : (k c : Bool) → k && cond c true true ≡ eqb (cond k no_refusal completion_not_held) 0
        go true true = refl
        go true false = refl
        go false c = refl
    legal-operation Clear h c = clear-legal c

    next-operation : (o : Operation) → Named s o → Completable s r i o → completed here (asked_by s i o) false ≡ number s (rival r.blocks r.held (completed_marks s r i o)) (suc n)
    next-operation (Read v) h k = access-next (block_of s v) (in_four v h) (asked_by s i (Read v)) false (reads v h) k
    next-operation (Write v x) h k = access-next (block_of s v) (in_four v h) (asked_by s i (Write v x)) true (writes v h) k
    next-operation Clear h k = clear_next

    price-operation : (o : Operation) → Named s o → (c : Bool) → Completable s r i o → completion_price here (asked_by s i o) c ≡ completion_by s r i o c
    price-operation (Read v) h c k = access-price (block_of s v) (in_four v h) (asked_by s i (Read v)) false (reads v h) c k
    price-operation (Write v x) h c k = access-price (block_of s v) (in_four v h) (asked_by s i (Write v x)) true (writes v h) c k
    price-operation Clear h c k = clear-price c

  -- ---- the completion of request q

  module _ (q : Request) (ps : List Request) (v : Valid s q) where
    i_lt : q.processor < 2
    i_lt = omega (arith, v.processor)

    legal-of : (c : Bool) → completion_legal here (asked s q) c ≡ eqb (completion_refusal s r q c) 0
    unfolding asked completion_refusal
    legal-of c =
        legal-operation q.processor i_lt q.operation v.operation c
        ∙ sym (rw (lt-ltb q.processor s.processors v.processor) (ap (λ z. eqb z 0) (named-passes s q.operation (ready_refusal s r q.processor q.operation c) v.operation)))

    price-of : (c : Bool) → completion_refusal s r q c ≡ 0 → completion_price here (asked s q) c ≡ completion_cycles s r q c
    unfolding asked completion_cycles
    price-of c h = price-operation q.processor i_lt q.operation v.operation c (completion-legal s r q c h).ready

    next-plain : completion_refusal s r q false ≡ 0 → completed here (asked s q) false ≡ number s (rival_completed s r q) (suc n)
    unfolding asked rival_completed
    next-plain h = next-operation q.processor i_lt q.operation v.operation (completion-legal s r q false h).ready

    next-broadcast : completed here (asked s q) true ≡ number s r (suc n)
    unfolding completed
    next-broadcast = rw (go (ltb (asked s q) 16)) one_more
      where
        go : (c : Bool) → c && false ≡ false
        go true = refl
        go false = refl

    pub agrees-complete : Agrees s r n (q ∷ ps) Complete (completion_legal here (asked s q) false) (completed here (asked s q) false) (completion_price here (asked s q) false)
    agrees-complete = record { legal-is = legal-of false; next-is = next-plain; price-is = λ h. price-of false h ∙ omega arith }

    pub agrees-broadcast : Agrees s r n (q ∷ ps) CompleteByBroadcast (completion_legal here (asked s q) true) (completed here (asked s q) true) (completion_price here (asked s q) true)
    agrees-broadcast = record { legal-is = legal-of true; next-is = λ h. next-broadcast; price-is = λ h. price-of true h ∙ omega arith }

-- ---- the requests as numbers

pub length-asked : (s : Setup) (qs : List Request) → length (asked_all s qs) ≡ length qs
length-asked s [] = refl
length-asked s (q ∷ qs) = ap suc (length-asked s qs)

-- the next request, where n are served
pub record Asks (s : Setup) (qs : List Request) (n : ℕ) (q : Request) : Type 0 where
  pub some : n < length qs
  pub valid : Valid s q
  pub number_is : at (asked_all s qs) n ≡ asked s q

asks_at : (s : Setup) (qs : List Request) (n : ℕ) (q : Request) (ps : List Request) → AllValid s qs → drop n qs ≡ q ∷ ps → Asks s qs n q
asks_at s [] zero q ps v e = absurd (let z = ap length e in omega arith)
asks_at s [] (suc n) q ps v e = absurd (let z = ap length e in omega arith)
asks_at s (q' ∷ qs) zero q ps v e = let p : q' ≡ q = cc in rw (← p) (record { some = omega arith; valid = v.0; number_is = refl })
asks_at s (q' ∷ qs) (suc n) q ps v e = let h = asks_at s qs n q ps v.1 e in record { some = omega (arith, h.some); valid = h.valid; number_is = h.number_is }

-- ---- each entry

module _ (s : Setup) (ok : Fits s) (two : s.processors ≡ 2) (small : s.blocks ≤ 4) (qs : List Request) (valid : AllValid s qs) (r : Rival) (sd : RivalSound s r) (n : ℕ) where
  -- a completion, by broadcast or not, where ps are left
  completing : (c : Bool) (ps : List Request) → drop n qs ≡ ps → Agrees s r n ps (cond c CompleteByBroadcast Complete)
      (ltb (served_of (number s r n)) (length (asked_all s qs)) && completion_legal (number s r n) (at (asked_all s qs) (served_of (number s r n))) c)
      (completed (number s r n) (at (asked_all s qs) (served_of (number s r n))) c) (completion_price (number s r n) (at (asked_all s qs) (served_of (number s r n))) c)
  completing c [] e = rw (served-number s r n, length-asked s qs, le-ltb n (length qs) (all-served e)) (none c)
    where
      all-served : drop n qs ≡ [] → length qs ≤ n
      all-served p = omega (arith, length-drop n qs, ap length p)

      none : (c : Bool) → Agrees s r n [] (cond c CompleteByBroadcast Complete) false (completed (number s r n) (at (asked_all s qs) n) c) (completion_price (number s r n) (at (asked_all s qs) n) c)
      none true = record { legal-is = refl; next-is = λ h. absurd (omega arith); price-is = λ h. absurd (omega arith) }
      none false = record { legal-is = refl; next-is = λ h. absurd (omega arith); price-is = λ h. absurd (omega arith) }
  completing c (q ∷ ps) e =
      let w = asks_at s qs n q ps valid e in
      rw (served-number s r n, length-asked s qs, lt-ltb n (length qs) w.some, w.number_is) (next c w.valid)
    where
      next : (c : Bool) → Valid s q
          → Agrees s r n (q ∷ ps) (cond c CompleteByBroadcast Complete) (completion_legal (number s r n) (asked s q) c) (completed (number s r n) (asked s q) c)
          (completion_price (number s r n) (asked s q) c)
      next true v = agrees-broadcast s ok two small r sd n q ps v
      next false v = agrees-complete s ok two small r sd n q ps v

  pub agrees : (k : ℕ) → k < 18
      → Agrees s r n (drop n qs) (entry_of (number s r n) k) (legal_at s (asked_all s qs) (number s r n) k) (next_at (asked_all s qs) (number s r n) k) (price_at s (asked_all s qs) (number s r n) k)
  unfolding entry_of legal_at next_at price_at move_legal moved_state move_price
  agrees k h = go (under? k 16)
    where
      go : Under k 16
          → Agrees s r n (drop n qs) (entry_of (number s r n) k) (legal_at s (asked_all s qs) (number s r n) k) (next_at (asked_all s qs) (number s r n) k)
          (price_at s (asked_all s qs) (number s r n) k)
      go (under l p) =
          rw p
          (agrees-move s ok two small r sd n (drop n qs) (moving_processor k) (moved_block k) (omega arith) (omega arith) (is_drop k)
          (has (moving_processor k) (digit (number s r n) (moved_block k))) refl)
      go (over l p) = rw p (last (same? k 16))
        where
          last : Same k 16 → Agrees s r n (drop n qs) (cond (eqb k 16) Complete CompleteByBroadcast)
              (ltb (served_of (number s r n)) (length (asked_all s qs)) && completion_legal (number s r n) (at (asked_all s qs) (served_of (number s r n))) (eqb k 17))
              (completed (number s r n) (at (asked_all s qs) (served_of (number s r n))) (eqb k 17)) (completion_price (number s r n) (at (asked_all s qs) (served_of (number s r n))) (eqb k 17))
          last (same a b) = rw (b, ne_eqb k 17 (omega arith)) (completing false (drop n qs) refl)
          last (apart a b) = rw (b, eq-eqb k 17 (omega arith)) (completing true (drop n qs) refl)
