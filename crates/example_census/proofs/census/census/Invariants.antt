use Rattle.std.proofs.Common.{◌≤◌, ◌^◌}
use Rattle.plane.specs.SinkChange.{change_of}
use Rattle.example_census.proofs.CensusSessions.{HasCome}
use Rattle.example_census.specs.Census.{TakesCensus}
use Rattle.example_census.proofs.census.census.Given as goal

abbrev pub invariant-loop-power : goal.invariant-loop-power
invariant-loop-power g l = record {
  takes : TakesCensus l.bytes l.power (change_of g.W.Sink.taken g.W.Sink.failure_count l.fn.out l.out);
  come : HasCome l.bytes l.first l.bounds l.done l.session;
  within : l.done ≤ 2 ^ l.power;
}
