use Rattle.std.proofs.Common.{◌≡◌, ℕ, Bool, true, false, ◌&&◌, sym, ◌∙◌, ap}
use Rattle.std.specs.Result.{result_ok}
use Rattle.capnp_model.specs.Chains.{passes}
use Rattle.capnp_model.specs.Segments.{Segments, root}
use Rattle.capnp_model.specs.Pointers.{found_at}
use Rattle.capnp_model.specs.Visits.{visits}
use Rattle.capnp_units.specs.Segments.{words_in}
use Rattle.hagzimot_salvage.specs.Roots.{is_root, is_clear, half_of, has_root}
use Rattle.hagzimot_salvage.proofs.roots.has_root.Goals as goal
use Rattle.hagzimot_salvage.proofs.roots.has_root.Goals.{then-names_root, else-names_root}

both : (a b r : Bool) → a ≡ true → r ≡ b → r ≡ (a && b)
both true b r h e = e
both false b r h e = absurd cc

first : (a b r : Bool) → a ≡ false → r ≡ false → r ≡ (a && b)
first true b r h e = absurd cc
first false b r h e = e

pub returns : goal.returns
unfolding has_root
returns g c =
    let l = c.args.limits in
    let s : Segments = words_in (g.S.ReaderSegments.segments c.args.segments) in
    let same : words_in (g.S.ReaderSegments.segments c.new-arena.result.segments) ≡ s = ap (λ x. words_in (g.S.ReaderSegments.segments x)) c.new-arena.ensures.segments in
    let names : c.names_root.result ≡ passes (λ f. is_root f.object) (result_ok (found_at s root)) = c.names_root.ensures ∙ ap (λ (x : Segments). passes (λ f. is_root f.object) (result_ok (found_at x root))) same in
    elim c.if-names_root.branch [
      | then-names_root w ↦
          let clear : w.is_clear.result ≡ is_clear l.root_words (half_of c.args.words) (visits l.nesting s root) = w.is_clear.ensures ∙ ap (λ (n : ℕ). is_clear l.root_words n (visits l.nesting (words_in (g.S.ReaderSegments.segments c.new-arena.result.segments)) root)) w.half_of.ensures ∙ ap (λ (x : Segments). is_clear l.root_words (half_of c.args.words) (visits l.nesting x root)) same in
          both (passes (λ f. is_root f.object) (result_ok (found_at s root))) (is_clear l.root_words (half_of c.args.words) (visits l.nesting s root)) c.if-names_root.result (sym names ∙ w.if-names_root.true) (w.result-is ∙ clear)
      | else-names_root w ↦ first (passes (λ f. is_root f.object) (result_ok (found_at s root))) (is_clear l.root_words (half_of c.args.words) (visits l.nesting s root)) c.if-names_root.result (sym names ∙ w.if-names_root.false) (w.result-is ∙ w.if-names_root.false)
    ]
