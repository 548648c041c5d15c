-- The search over lists of any cells: what 2 says of the lists, and the list after it.
use Rattle.std.specs.Prelude.{ℕ, Bool, ◌&&◌, cond, List, eqb}
use Rattle.protocol_types.specs.Refusals.{no_refusal}
use Rattle.protocol_types.specs.declared.Setup.{Setup}
use Rattle.protocol_types.specs.declared.Request.{Request}
use Rattle.protocol_types.specs.declared.Entry.{Entry}
use Rattle.best_positions.specs.Best.{SearchTables, search_sized, best_refusal, schedule}
use Rattle.stored_lists.specs.Lists.{filled}

-- how many entries the list has room for, of n; none where a list is not whole, so that 2 refuses it in its place among the checks
abbrev pub entries_lent : Bool → ℕ → ℕ
entries_lent both n = cond both n 0

-- 2: the search tables, whole lists, and a list of 32,400 entries
abbrev pub lists_sized : SearchTables → Bool → Bool → ℕ → Bool
lists_sized x requests_whole list_whole n = search_sized x (entries_lent (requests_whole && list_whole) n)

-- the schedule's entries stored one after another from the front on; "no refusal changes a buffer"
unfoldable pub best_stored : {A : Type 0} → (List A → ℕ → Entry → List A) → Setup → List Request → ℕ → Bool → List A → List A
best_stored stored s qs m sized lent = cond (eqb (best_refusal s qs sized) no_refusal) (filled stored lent (schedule s qs m)) lent
