-- The numbers of request i name it.
use native.Mathlib.Omega.{arith}
use Rattle.std.proofs.Common.{refl, ◌∙◌, ◌/◌, ◌<◌, length}
use Rattle.std.proofs.lemmas.Option.{slice_get_read}
use Rattle.host_decoding.specs.Records.{request_width}
use Rattle.host_decoding.proofs.Decoding.{requests_counted, request-at}
use Rattle.stored_lists.proofs.U32StoresRequest.record_at.Goals as goal

pub request_at-requires : goal.request_at-requires
request_at-requires c = omega (arith, c.requires, requests_counted c.args.list.now)

pub returns : goal.returns
returns c =
    let ns = c.args.list.now in
    let below : c.args.i < length ns / request_width = omega (arith, c.requires, requests_counted ns) in
    slice_get_read _ _ _ _ refl c.requires (c.request_at.ensures ∙ request-at ns c.args.i c.request_at.result below)
