-- `bridge::bridge_build` meets its contract: kept and rounds fit their places. Assumes nothing.
use native.Mathlib.Omega.{arith}
use Rattle.calls.specs.Call.{call_of}
use Rattle.calls.proofs.Ranges.{Few, built_few}
use Rattle.bridge.proofs.bridge_build.Goals as goal

pub pack_verdict-requires : goal.pack_verdict-requires
pack_verdict-requires c =
    let a = c.args in
    let call = call_of a.writer.now a.reader.now a.bound a.rule in
    let few : Few c.build-b.result = built_few call a.buffer.now _ c.build-b.result c.build-b.ensures in
    (omega (arith, few.0), omega (arith, few.1))
