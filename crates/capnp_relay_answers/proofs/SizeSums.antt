-- The widest struct of nodes, and what calls put, as they are counted one after the other.
use Rattle.std.proofs.Common.{◌≡◌, ℕ, ◌+◌, ◌<◌, max, List, map, take, length, fold, sum_by, get_or}
use Rattle.std.proofs.lemmas.List.Folds.{fold-map}
use Rattle.std.proofs.lemmas.List.Sums.{fold_more, sum_by_more}
use Rattle.capnp_records.specs.NodeViews.{node_kind, node_of}
use Rattle.capnp_records.specs.declared.node.NodeRecord.{NodeRecord}
use Rattle.capnp_calls.specs.Resolved.{call_of, calls_of}
use Rattle.capnp_calls.specs.declared.resolved.Resolved.{Resolved}
use Rattle.capnp_relay_answers.specs.Sizes.{words_of_kind, widest_struct, most_by}

-- by the records
abbrev pub widest_recorded : List NodeRecord → ℕ
widest_recorded rs = fold (λ most (r : NodeRecord). max most (words_of_kind (node_kind r.body))) 0 rs

pub widest_is : (rs : List NodeRecord) → widest_struct (map node_of rs) ≡ widest_recorded rs
widest_is rs = fold-map (λ most n. max most (words_of_kind n.kind)) node_of 0 rs

pub widest_more : (rs : List NodeRecord) (i : ℕ) (r : NodeRecord) → i < length rs → widest_recorded (take (i + 1) rs) ≡ max (widest_recorded (take i rs)) (words_of_kind (node_kind (get_or rs i r).body))
widest_more rs i r inside = fold_more (λ most (r : NodeRecord). max most (words_of_kind (node_kind r.body))) 0 rs i r inside

-- by the resolved calls
abbrev pub by_resolved : List Resolved → ℕ
by_resolved rs = sum_by (λ r. most_by (call_of r)) rs

pub by_resolved_is : (rs : List Resolved) → sum_by most_by (calls_of rs) ≡ by_resolved rs
by_resolved_is rs = fold-map (λ a c. a + most_by c) call_of 0 rs

pub by_more : (rs : List Resolved) (i : ℕ) (r : Resolved) → i < length rs → by_resolved (take (i + 1) rs) ≡ by_resolved (take i rs) + most_by (call_of (get_or rs i r))
by_more rs i r inside = sum_by_more (λ r. most_by (call_of r)) rs i r inside
