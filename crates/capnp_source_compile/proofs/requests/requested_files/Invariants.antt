-- the files so far, and those that are left
use Rattle.std.proofs.Common.{◌≡◌, ◌++◌, map, length}
use Rattle.capnp_source_compile.specs.Requests.{listed, asked_of}
use Rattle.capnp_source_compile.proofs.requests.requested_files.Given as goal

abbrev pub invariant-loop-left : goal.invariant-loop-left
invariant-loop-left l = map listed l.all.items ++ asked_of l.left ≡ asked_of l.fn.files

abbrev pub decreases-loop-left : goal.decreases-loop-left
decreases-loop-left l = length l.left
