use Rattle.std.proofs.Common.{◌≤◌, vec_items, vec_capacity}
use Rattle.versions.proofs.Starts.{Shutting}
use Rattle.versions.proofs.sessions.Sessions.fresh.Given as goal

abbrev pub invariant-loop-console : goal.invariant-loop-console
invariant-loop-console g l = Shutting l.records (vec_items l.sessions) l._console × (16 ≤ vec_capacity l.sessions)
