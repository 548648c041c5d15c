-- Laws of a rival's entries: what their conditions tell, and the lengths of the rival's tables.
use Prim.Native.Nat.{ℕ, zero, suc, ◌<◌}
use mathlib.Core.Path.{◌≡◌, refl, ◌∙◌}
use mathlib.Core.Logic.{◌≢◌}
use mathlib.Core.Bool.{Bool, true, false, not, cond}
use mathlib.Core.List.{List, [], ◌∷◌}
use native.Mathlib.Omega.{arith}
use lib.ListN.{length, length-set, length-replicate}
use lib.Dec.{ltb, eqb}
use borrow.Author.Tests.{ltb-true, lt-ltb, eq-eqb, eqb-true}
use Rattle.protocol_types.specs.Lists.{at}
use Rattle.protocol_types.specs.Refusals.{no_refusal, no_such_processor, no_such_block, broadcast_without_write, completion_not_held, cache_not_empty}
use Rattle.protocol_types.specs.Board.{slots, line_slot, slot, block_of}
use Rattle.protocol_types.specs.Conditions.{Valid}
use Rattle.protocol.specs.Rival.{Rival, RivalSized, no_copies, keeps, shared, empty_cache, unmarked, rival_fetched, rival_written_back, rival_dropped, completed_marks, rival_completed, played, move_refusal, ready_refusal, completion_refusal}
use Rattle.protocol_types.specs.declared.Setup.{Setup}
use Rattle.protocol_types.specs.declared.Block.{Block}
use Rattle.protocol_types.specs.declared.Request.{Request}
use Rattle.protocol_types.specs.declared.Operation.{Operation}
use Rattle.protocol_types.specs.declared.Operation.TheVariants.{Read, Write, Clear}
use Rattle.protocol_types.specs.declared.Entry.{Entry}
use Rattle.protocol_types.specs.declared.Entry.TheVariants.{Fetch, WriteBack, Drop, Complete, CompleteByBroadcast}
use Rattle.protocol_types.proofs.Laws.{Known, sure, not_so, known, choice, chosen-zero, all_true, true-all}
use Rattle.protocol_types.proofs.Conditions.{named-passes, valid-passed}

-- ---- entries that are not refused

-- a move, n being the number after 3 and 8
pub record Move (s : Setup) (i : ℕ) (b : Block) (n : ℕ) : Type 0 where
  pub processor : i < s.processors
  pub block : b.0 < s.blocks
  pub rest : n ≡ 0

pub move-legal : (s : Setup) (i : ℕ) (b : Block) (n : ℕ) → move_refusal s i b n ≡ 0 → Move s i b n
unfolding move_refusal
move-legal s i b n e =
    let e₁ = chosen-zero (ltb i s.processors) (cond (ltb b.0 s.blocks) n no_such_block) no_such_processor (omega arith) e in
    let e₂ = chosen-zero (ltb b.0 s.blocks) n no_such_block (omega arith) e₁.1 in
    record { processor = ltb-true _ _ e₁.0; block = ltb-true _ _ e₂.0; rest = e₂.1 }

-- the cache of processor i is empty if each line is, and only then
module _ (s : Setup) (r : Rival) (i : ℕ) where
  pub lines-empty : ((l : ℕ) → l < s.lines → at r.held (line_slot s i l) ≡ 0) → empty_cache s r i ≡ true
  unfolding empty_cache
  lines-empty f = true-all s.lines (λ l. eqb (at r.held (line_slot s i l)) 0) (λ l u. eq-eqb (at r.held (line_slot s i l)) 0 (f l u))

  pub line-empty : empty_cache s r i ≡ true → (l : ℕ) → l < s.lines → at r.held (line_slot s i l) ≡ 0
  unfolding empty_cache
  line-empty e l u = eqb-true (at r.held (line_slot s i l)) 0 (all_true s.lines (λ l. eqb (at r.held (line_slot s i l)) 0) e l u)

  pub line-in-use : (l : ℕ) → l < s.lines → at r.held (line_slot s i l) ≢ 0 → empty_cache s r i ≡ false
  line-in-use l u d = go (known (empty_cache s r i))
    where
      go : Known (empty_cache s r i) → empty_cache s r i ≡ false
      go (sure e) = absurd (d (line-empty e l u))
      go (not_so e) = e

-- what completing processor i's operation needs of the copies
abbrev pub Completable : Setup → Rival → ℕ → Operation → Type 0
Completable s r i (Read v) = keeps s r i (block_of s v) ≡ true
Completable s r i (Write v x) = keeps s r i (block_of s v) ≡ true
Completable s r i Clear = empty_cache s r i ≡ true

ready-passed : (s : Setup) (r : Rival) (i : ℕ) (o : Operation) (a : Bool) → ready_refusal s r i o a ≡ 0 → Completable s r i o
ready-passed s r i (Read v) a e =
    let kept : ℕ = cond (keeps s r i (block_of s v)) no_refusal completion_not_held in
    (chosen-zero (keeps s r i (block_of s v)) no_refusal completion_not_held (omega arith) (chosen-zero (not a) kept broadcast_without_write (omega arith) e).1).0
ready-passed s r i (Write v x) a e = (chosen-zero (keeps s r i (block_of s v)) no_refusal completion_not_held (omega arith) e).0
ready-passed s r i Clear a e =
    let empty : ℕ = cond (empty_cache s r i) no_refusal cache_not_empty in
    (chosen-zero (empty_cache s r i) no_refusal cache_not_empty (omega arith) (chosen-zero (not a) empty broadcast_without_write (omega arith) e).1).0

-- and that this is enough, plainly
pub ready-passes : (s : Setup) (r : Rival) (i : ℕ) (o : Operation) → Completable s r i o → ready_refusal s r i o false ≡ 0
ready-passes s r i (Read v) e = rw e
ready-passes s r i (Write v x) e = rw e
ready-passes s r i Clear e = rw e

-- a completion
pub record Completion (s : Setup) (r : Rival) (q : Request) : Type 0 where
  pub valid : Valid s q
  pub ready : Completable s r q.processor q.operation

pub completion-legal : (s : Setup) (r : Rival) (q : Request) (a : Bool) → completion_refusal s r q a ≡ 0 → Completion s r q
unfolding completion_refusal
completion-legal s r q a e =
    let v = valid-passed s q (ready_refusal s r q.processor q.operation a) e in
    record { valid = v.0; ready = ready-passed s r q.processor q.operation a v.1 }

pub legal-completion : (s : Setup) (r : Rival) (q : Request) → Valid s q → Completable s r q.processor q.operation → completion_refusal s r q false ≡ 0
unfolding completion_refusal
legal-completion s r q v e =
    rw (lt-ltb _ _ v.processor)
    (named-passes s q.operation (ready_refusal s r q.processor q.operation false) v.operation ∙ ready-passes s r q.processor q.operation e)

-- ---- each entry keeps the lengths of the tables

pub length-unmarked : (s : Setup) (r : Rival) (b : Block) (n : ℕ) → length (unmarked s r b n) ≡ length r.marks
length-unmarked s r b zero = refl
length-unmarked s r b (suc n) =
    choice (λ z. length z ≡ length r.marks) (keeps s r n b) (λ e. length-set (unmarked s r b n) (slot s n b) 0 ∙ length-unmarked s r b n)
    (λ e. length-unmarked s r b n)

pub sized-no_copies : (s : Setup) → RivalSized s (no_copies s)
unfolding no_copies
sized-no_copies s = record {
  blocks = length-replicate (slots s) 0;
  held = length-replicate (slots s) 0;
  marks = length-replicate (slots s) 0;
}

module _ (s : Setup) (r : Rival) (z : RivalSized s r) where
  sized-fetched : (i : ℕ) (b : Block) → RivalSized s (rival_fetched s r i b)
  unfolding rival_fetched
  sized-fetched i b = record {
    blocks = simp length-set z.blocks;
    held = simp length-set z.held;
    marks = simp (length-set, length-unmarked) z.marks;
  }

  sized-written_back : (i : ℕ) (b : Block) → RivalSized s (rival_written_back s r i b)
  unfolding rival_written_back
  sized-written_back i b = record { blocks = z.blocks; held = z.held; marks = simp length-set z.marks }

  sized-dropped : (i : ℕ) (b : Block) → RivalSized s (rival_dropped s r i b)
  unfolding rival_dropped
  sized-dropped i b = record {
    blocks = simp length-set z.blocks;
    held = simp length-set z.held;
    marks = simp length-set z.marks;
  }

  length-completed_marks : (i : ℕ) (o : Operation) → length (completed_marks s r i o) ≡ length r.marks
  length-completed_marks i (Read v) = refl
  length-completed_marks i (Write v x) =
      choice (λ z. length z ≡ length r.marks) (shared s r i (block_of s v)) (λ e. refl) (λ e. length-set r.marks (slot s i (block_of s v)) 1)
  length-completed_marks i Clear = refl

  sized-completed : (q : Request) → RivalSized s (rival_completed s r q)
  unfolding rival_completed
  sized-completed q = record {
    blocks = z.blocks;
    held = z.held;
    marks = length-completed_marks q.processor q.operation ∙ z.marks;
  }

  pub sized-played : (qs : List Request) (e : Entry) → RivalSized s (played s r qs e)
  sized-played qs (Fetch i b) = sized-fetched i b
  sized-played qs (WriteBack i b) = sized-written_back i b
  sized-played qs (Drop i b) = sized-dropped i b
  sized-played [] Complete = z
  sized-played (q ∷ qs) Complete = sized-completed q
  sized-played qs CompleteByBroadcast = z
