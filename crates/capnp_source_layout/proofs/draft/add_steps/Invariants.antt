-- what is laid out stays
use Rattle.std.proofs.Common.{◌≡◌, ◌+◌, vec_len}
use Rattle.capnp_source_layout.specs.Drafts.{MovesNone}
use Rattle.capnp_source_layout.proofs.draft.add_steps.Given as goal

abbrev pub invariant-loop-step : goal.invariant-loop-step
invariant-loop-step l = record {
  moves_none : MovesNone l.fn.draft l.draft;
  offsets : vec_len l.draft.offsets ≡ vec_len l.fn.draft.offsets + l.step-index;
  discriminants : vec_len l.draft.discriminants ≡ vec_len l.fn.draft.discriminants;
}
