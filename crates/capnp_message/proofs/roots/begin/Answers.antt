use Rattle.std.proofs.Common.{◌≡◌, inr, sym, []}
use Rattle.capnp_model.specs.Segments.{Segments}
use Rattle.capnp_units.specs.Segments.{words_in}
use Rattle.capnp_message.proofs.Building.{no_first, rooted_none, root_there}
use Rattle.capnp_message.proofs.Written.{root_made, not_too_many}
use Rattle.capnp_message.proofs.Refused.{word_refused}
use Rattle.capnp_message.proofs.roots.begin.Goals as goal

pub returns-in-Ok-clause-rooted : goal.returns-in-Ok-clause-rooted
returns-in-Ok-clause-rooted g c =
    let s : Segments = words_in (g.A.ReaderArena.segments c.args.arena.now) in
    let none : s ≡ [] = no_first s c.has_words-2.result (sym c.has_words-2.ensures.there) c.if-has_words-2.false in
    rooted_none s _ none (root_made s _ _ _ none c.in-Ok.ensures.ok)

pub returns-in-Ok-clause-there : goal.returns-in-Ok-clause-there
returns-in-Ok-clause-there g c =
    let s : Segments = words_in (g.A.ReaderArena.segments c.args.arena.now) in
    let none : s ≡ [] = no_first s c.has_words-2.result (sym c.has_words-2.ensures.there) c.if-has_words-2.false in
    root_there _ (root_made s _ _ _ none c.in-Ok.ensures.ok)

pub returns-in-Err-clause-kind : goal.returns-in-Err-clause-kind
returns-in-Err-clause-kind g c =
    let s : Segments = words_in (g.A.ReaderArena.segments c.args.arena.now) in
    not_too_many s _ (no_first s c.has_words-2.result (sym c.has_words-2.ensures.there) c.if-has_words-2.false) c.in-Err.ensures.kind

pub returns-in-Err-clause-cause : goal.returns-in-Err-clause-cause
returns-in-Err-clause-cause g c =
    let s : Segments = words_in (g.A.ReaderArena.segments c.args.arena.now) in
    inr (word_refused s _ _ (no_first s c.has_words-2.result (sym c.has_words-2.ensures.there) c.if-has_words-2.false) c.in-Err.ensures.kind c.in-Err.ensures.cause)
