use Rattle.std.proofs.Common.{take, drop, rules}
use Rattle.std.proofs.KnownBytes.{Appends-trans}
use Rattle.std.proofs.Math.Seq.{take-add}
use Rattle.std.proofs.lemmas.List.{take_rest}
use Rattle.plane.proofs.device.traits.write_all.Goals as goal

pub loop-written-preserved : goal.loop-written-preserved
loop-written-preserved g c =
    let bytes = c.args.bytes.now in
    let written = c.loop-written.written in
    let count = c.in-Ok.count in (
      search rules,
      rw (take-add written count bytes)
          (Appends-trans _ _ _ (take written bytes) (take count (drop written bytes)) c.loop-written.invariant.1 (rw take_rest at c.in-Ok.ensures.bytes)),
      search rules,
    )
