-- The copies of a legal schedule, entry after entry: held marks and dirty marks are 0 or 1, and empty lines are all 0.
-- From the conditions of an entry (protocol/proofs/Rival) and the laws of a table after a store.
use Prim.Native.Nat.{ℕ, zero, suc, ◌≤◌, ◌<◌}
use mathlib.Core.Path.{◌≡◌, refl}
use mathlib.Core.Bool.{true, false}
use mathlib.Core.List.{List, [], ◌∷◌}
use native.Mathlib.Omega.{arith}
use lib.ListN.{length, set}
use lib.Dec.{eqb}
use borrow.Author.Tests.{eqb-true}
use Rattle.protocol_types.specs.Lists.{at}
use Rattle.protocol_types.specs.Refusals.{no_refusal, unless, line_in_use}
use Rattle.protocol_types.specs.Board.{Fits, slots, slot, block_of}
use Rattle.protocol.specs.Rival.{Rival, RivalSized, no_copies, keeps_at, keeps, shared, unmarked, rival_fetched, rival_written_back, rival_dropped, completed_marks, rival_completed, played, left, refusal, Legal, last_copies}
use Rattle.competitive.specs.Claims.{LineShown, Shown}
use Rattle.protocol_types.specs.declared.Setup.{Setup}
use Rattle.protocol_types.specs.declared.Block.{Block}
use Rattle.protocol_types.specs.declared.Request.{Request}
use Rattle.protocol_types.specs.declared.Operation.{Operation}
use Rattle.protocol_types.specs.declared.Operation.TheVariants.{Read, Write, Clear}
use Rattle.protocol_types.specs.declared.Entry.{Entry}
use Rattle.protocol_types.specs.declared.Entry.TheVariants.{Fetch, WriteBack, Drop, Complete, CompleteByBroadcast}
use Rattle.protocol_types.proofs.Laws.{Same, same, apart, same?, choice, both_true, at_set, at_set_same, at_set_other, at-set-zero, at-zeros}
use Rattle.protocol_types.proofs.Board.{slot_lt}
use Rattle.protocol.proofs.Rival.{move-legal, Completable, completion-legal, sized-played}

-- ---- one line

empty-shown : LineShown 0 0 0
empty-shown = record { held-le = omega arith; mark-le = omega arith; no_block = λ _. refl; no-mark = λ _. refl }

-- with a lower mark
lower : {h b m : ℕ} (n : ℕ) → n ≤ m → LineShown h b m → LineShown h b n
lower n l w = record {
  held-le = w.held-le;
  mark-le = omega (arith, w.mark-le);
  no_block = w.no_block;
  no-mark = λ e. let z = w.no-mark e in omega arith;
}

-- a held line
held-shown : {h : ℕ} (b m : ℕ) → h ≡ 1 → m ≤ 1 → LineShown h b m
held-shown b m e l = record {
  held-le = omega arith;
  mark-le = l;
  no_block = λ z. absurd (omega arith);
  no-mark = λ z. absurd (omega arith);
}

-- line k of these tables
abbrev At : List ℕ → List ℕ → List ℕ → ℕ → Type 0
At bs hs ms k = LineShown (at hs k) (at bs k) (at ms k)

set-zero-le : (l : List ℕ) (k j : ℕ) → at (set l k 0) j ≤ at l j
set-zero-le l k j = at_set (λ z. z ≤ at l j) l k 0 j (omega arith) (omega arith)

unmarked-le : (s : Setup) (r : Rival) (b : Block) (n k : ℕ) → at (unmarked s r b n) k ≤ at r.marks k
unmarked-le s r b zero k = omega arith
unmarked-le s r b (suc n) k =
    let e = unmarked-le s r b n k in
    choice (λ (l : List ℕ). at l k ≤ at r.marks k) (keeps s r n b)
    (λ _. omega (arith, e, set-zero-le (unmarked s r b n) (slot s n b) k)) (λ _. e)

-- ---- one entry

-- a block that is kept is held
kept-held : (s : Setup) (r : Rival) (i : ℕ) (b : Block) → keeps s r i b ≡ true → at r.held (slot s i b) ≡ 1
unfolding keeps keeps_at
kept-held s r i b e =
    eqb-true (at r.held (slot s i b)) 1 (both_true (eqb (at r.held (slot s i b)) 1) (eqb (at r.blocks (slot s i b)) b.0) e).0

module _ (s : Setup) (ok : Fits s) (r : Rival) (z : RivalSized s r) (w : Shown r) where
  fetched-shown : (i : ℕ) (b : Block) → i < s.processors → Shown (rival_fetched s r i b)
  unfolding rival_fetched
  fetched-shown i b l k = go (same? k (slot s i b))
    where
      j : ℕ
      j = slot s i b

      ms : List ℕ
      ms = unmarked s r b s.processors

      within : j < length r.held
      within = let a = slot_lt s ok i b l in omega (arith, a, z.held)

      go : Same k j → At (set r.blocks j b.0) (set r.held j 1) (set ms j 0) k
      go (same p _) =
          rw p (held-shown (at (set r.blocks j b.0) j) (at (set ms j 0) j) (at_set_same r.held j 1 within) (omega (arith, at-set-zero ms j)))
      go (apart d _) =
          rw (at_set_other r.blocks j b.0 k d, at_set_other r.held j 1 k d, at_set_other ms j 0 k d)
          (lower (at ms k) (unmarked-le s r b s.processors k) (w k))

  written_back-shown : (i : ℕ) (b : Block) → Shown (rival_written_back s r i b)
  unfolding rival_written_back
  written_back-shown i b k = lower (at (set r.marks (slot s i b) 0) k) (set-zero-le r.marks (slot s i b) k) (w k)

  dropped-shown : (i : ℕ) (b : Block) → Shown (rival_dropped s r i b)
  unfolding rival_dropped
  dropped-shown i b k = go (same? k (slot s i b))
    where
      j : ℕ
      j = slot s i b

      go : Same k j → At (set r.blocks j 0) (set r.held j 0) (set r.marks j 0) k
      go (same p _) = rw p (rw (at-set-zero r.blocks j, at-set-zero r.held j, at-set-zero r.marks j) empty-shown)
      go (apart d _) = rw (at_set_other r.blocks j 0 k d, at_set_other r.held j 0 k d, at_set_other r.marks j 0 k d) (w k)

  marked-shown : (j : ℕ) → at r.held j ≡ 1 → (k : ℕ) → At r.blocks r.held (set r.marks j 1) k
  marked-shown j e k = go (same? k j)
    where
      go : Same k j → At r.blocks r.held (set r.marks j 1) k
      go (same p _) =
          rw p
          (held-shown (at r.blocks j) (at (set r.marks j 1) j) e (at_set (λ (x : ℕ). x ≤ 1) r.marks j 1 j (omega arith) (w j).mark-le))
      go (apart d _) = rw (at_set_other r.marks j 1 k d) (w k)

  completed-shown : (i : ℕ) (o : Operation) → Completable s r i o → (k : ℕ) → At r.blocks r.held (completed_marks s r i o) k
  completed-shown i (Read v) c k = w k
  completed-shown i (Write v x) c k =
      choice (λ (ms : List ℕ). At r.blocks r.held ms k) (shared s r i (block_of s v)) (λ _. w k)
      (λ _. marked-shown (slot s i (block_of s v)) (kept-held s r i (block_of s v) c) k)
  completed-shown i Clear c k = w k

  played-shown : (qs : List Request) (e : Entry) → refusal s r qs e ≡ no_refusal → Shown (played s r qs e)
  unfolding rival_completed
  played-shown qs (Fetch i b) e = fetched-shown i b (move-legal s i b (unless (eqb (at r.held (slot s i b)) 0) line_in_use no_refusal) e).processor
  played-shown qs (WriteBack i b) e = written_back-shown i b
  played-shown qs (Drop i b) e = dropped-shown i b
  played-shown [] Complete e = w
  played-shown (q ∷ qs) Complete e = completed-shown q.processor q.operation (completion-legal s r q false e).ready
  played-shown qs CompleteByBroadcast e = w

-- ---- a whole schedule

pub last-shown : (s : Setup) → Fits s → (r : Rival) → RivalSized s r → Shown r → (qs : List Request) (es : List Entry) → Legal s r qs es
    → Shown (last_copies s r qs es)
last-shown s ok r z w qs [] l = w
last-shown s ok r z w qs (e ∷ es) l =
    last-shown s ok (played s r qs e) (sized-played s r z qs e) (played-shown s ok r z w qs e l.0) (left qs e) es l.1

pub none-shown : (s : Setup) → Shown (no_copies s)
unfolding no_copies
none-shown s k = rw (at-zeros (slots s) k) empty-shown
