-- The numbers of entry i name it.
use native.Mathlib.Omega.{arith}
use Rattle.std.proofs.Common.{refl, ◌∙◌, ◌/◌, ◌<◌, length}
use Rattle.std.proofs.lemmas.Option.{slice_get_read}
use Rattle.host_decoding.specs.Records.{entry_width}
use Rattle.host_decoding.proofs.Decoding.{entries_counted, entry-at}
use Rattle.stored_lists.proofs.U32StoresEntry.record_at.Goals as goal

pub entry_at-requires : goal.entry_at-requires
entry_at-requires c = omega (arith, c.requires, entries_counted c.args.list.now)

pub returns : goal.returns
returns c =
    let ns = c.args.list.now in
    let below : c.args.i < length ns / entry_width = omega (arith, c.requires, entries_counted ns) in
    slice_get_read _ _ _ _ refl c.requires (c.entry_at.ensures ∙ entry-at ns c.args.i c.entry_at.result below)
