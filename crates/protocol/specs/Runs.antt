-- Starting, a look, what refuses a run, and the engine that the rules make (document 01, "The board", "What one request does" and the order of checks).
use Rattle.std.specs.Prelude.{ℕ, ◌*◌, Bool, ◌&&◌, cond, List, [], ◌∷◌, length, ltb, eqb}
use Rattle.protocol_types.specs.Lists.{part}
use Rattle.protocol_types.specs.Refusals.{no_refusal, unless, first_of, wrong_length, unsound_tables, impossible_account}
use Rattle.protocol_types.specs.Board.{setup_refusal, slots, slot, word_index}
use Rattle.protocol.specs.Tables.{Tables, sized, fresh, directory, holds}
use Rattle.protocol.specs.Soundness.{sound}
use Rattle.protocol.specs.Masks.{Masked, with_masks, fresh_masked, sized_masked, sound_masked}
use Rattle.protocol_types.specs.Conditions.{request_refusal}
use Rattle.protocol.specs.Requests.{served, value, bill}
use Rattle.protocol.specs.Accounts.{possible}
use Rattle.protocol.specs.Engines.{Engine, Outcome, State}
use Rattle.protocol_types.specs.declared.Setup.{Setup}
use Rattle.protocol_types.specs.declared.Block.{Block}
use Rattle.protocol_types.specs.declared.Request.{Request}
use Rattle.protocol_types.specs.declared.Account.{Account}

-- ---- starting: checks 1, 10, 2

unfoldable pub start_refusal : Setup → Masked → ℕ
start_refusal s x =
    first_of (setup_refusal s)
    (unless (sized_masked s x) wrong_length no_refusal)

-- the tables and masks as starting leaves them: all 0, or unchanged by a refusal
unfoldable pub started : Setup → Masked → Masked
started s x = cond (eqb (start_refusal s x) no_refusal) (fresh_masked s) x

-- ---- a look

-- the part of the lent words that is block b in processor i's cache; empty if 1, 10, 2, 3 or 8 would apply, or if i does not hold b
unfoldable pub looked : Setup → List ℕ → List ℕ → List ℕ → ℕ → Block → List ℕ
looked s blocks counters words i b =
    cond
    (eqb (setup_refusal s) no_refusal
    && (eqb (length blocks) (slots s) && eqb (length counters) (slots s) && eqb (length words) (slots s * s.words))
    && ltb i s.processors && ltb b.0 s.blocks && holds s (directory blocks counters) i b)
    (part words (word_index s (slot s i b) 0) s.words) []

-- ---- a run checks 1, 10, 2, 20, 21, in this order, before its first request

-- `lengths` and `soundness` are the tests of 2 and of 20
abbrev pub checks_refusal : Setup → Bool → Bool → Account → ℕ
checks_refusal s lengths soundness a =
    first_of (setup_refusal s)
    (unless lengths wrong_length
    (unless soundness unsound_tables
    (unless (possible s a) impossible_account no_refusal)))

-- a run of n requests on tables alone
unfoldable pub run_refusal : Setup → Tables → Account → ℕ → List ℕ → ℕ
run_refusal s t a n vs = checks_refusal s (sized s t && eqb (length vs) n) (sound s t) a

-- and on tables with masks
unfoldable pub masked_refusal : Setup → Masked → Account → ℕ → List ℕ → ℕ
masked_refusal s x a n vs = checks_refusal s (sized_masked s x && eqb (length vs) n) (sound_masked s x) a

-- ---- the engines: what a run and a list of runs (Engines.antt) are made of

-- the rules, without masks
abbrev pub engine : Setup → Engine Tables Request
engine s = record { run_refusal = run_refusal s; refusal = request_refusal s; served = served s; value = value s; bill = bill s }

-- fresh tables, and the account that the first run meets
abbrev pub opening : Setup → Account → State Tables
opening s a = record { tables = fresh s; account = a }

-- what the entries run: the same rules on tables with masks. After each request the masks are those of the tables (document 02, P7)
abbrev pub masked_engine : Setup → Engine Masked Request
masked_engine s = record {
  run_refusal = masked_refusal s;
  refusal = request_refusal s;
  served = λ x q. with_masks s (served s x.tables q);
  value = λ x q. value s x.tables q;
  bill = λ x q. bill s x.tables q;
}

abbrev pub masked_opening : Setup → Account → State Masked
masked_opening s a = record { tables = fresh_masked s; account = a }

-- ---- what runs without masks answer and leave, with the true masks of the tables that they leave

abbrev pub masked_outcome : Setup → Outcome Tables → Outcome Masked
masked_outcome s o = record { answer = o.answer; tables = with_masks s o.tables; account = o.account; values = o.values }

abbrev pub masked_outcomes : Setup → List (Outcome Tables) → List (Outcome Masked)
masked_outcomes s [] = []
masked_outcomes s (o ∷ os) = masked_outcome s o ∷ masked_outcomes s os

abbrev pub masked_state : Setup → State Tables → State Masked
masked_state s w = record { tables = with_masks s w.tables; account = w.account }
