use Rattle.std.proofs.Common.{◌≡◌, ℕ, ℤ, Option, Some, None, List, [], ◌∷◌, Result, Ok, Err, refl, ap, sym, ◌∙◌, subst}
use Rattle.std.specs.List.{flat_map}
use Rattle.std.specs.Prelude.{IfOk, IfErr, IsErrAnd}
use Rattle.std.proofs.lemmas.Result.{err_from_is_err_and}
use Rattle.capnp_model.specs.Answers.{levels}
use Rattle.capnp_model.specs.Segments.{Segments}
use Rattle.capnp_model.specs.Trimming.{trim}
use Rattle.capnp_units.specs.Segments.{words_in, whole_words}
use Rattle.capnp_message.specs.declared.options.ReaderOptions.{ReaderOptions}
use Rattle.capnp_relay_show.specs.Printed.{HasRoot}
use Rattle.capnp_relay_show.specs.Answers.{shown_by, IsShowFault}
use Rattle.capnp_relay_show.specs.declared.copied.CanonicalMessage.{CanonicalMessage}
use Rattle.capnp_relay_show.specs.declared.show.ShowFault.{ShowFault}
use Rattle.capnp_relay_show.proofs.Shown.{not_framed_shown, negative_shown, no_copy_shown, copy_root, text_is, fault_is}
use Rattle.capnp_relay_show.proofs.show.show.Goals as goal

refused : {X : Type 0} (P : ShowFault → Type 0) (r : Result X ShowFault) (e : ShowFault) → IsErrAnd r (λ y. y ≡ e) → P e → IfErr r P
refused P r e h p = let a = err_from_is_err_and r h in subst (λ z. IfErr z P) (sym (a.1 ∙ ap (λ y. Err y) a.2)) p

if_ok : {X E : Type 0} {P Q : X → Type 0} (r : Result X E) → ((x : X) → P x → Q x) → IfOk r P → IfOk r Q
if_ok (Ok x) f h = f x h
if_ok (Err e) f h = h

if_err : {X E : Type 0} {P Q : E → Type 0} (r : Result X E) → ((e : E) → P e → Q e) → IfErr r P → IfErr r Q
if_err (Ok x) f h = h
if_err (Err e) f h = f e h

-- the one segment of a copy
abbrev segments_of : CanonicalMessage → Segments
segments_of m = whole_words (flat_map (λ w. w) m.words.items) ∷ []

pub returns-in_default-clause-fault : goal.returns-in_default-clause-fault
returns-in_default-clause-fault c =
    let m = c.in-Ok.ensures.message in
    let same = ap (λ (o : ReaderOptions). levels o.nesting_limit) (sym c.in-Ok.ensures.options) in
    negative_shown c.args.root c.args.options c.args.bytes.now (_, m.0) m.1 (same ∙ sym c.in_default.ensures)

pub returns-in_err-copy-clause-fault : goal.returns-in_err-copy-clause-fault
returns-in_err-copy-clause-fault c =
    let m = c.in-Ok.ensures.message in
    let same = ap (λ (o : ReaderOptions). levels o.nesting_limit) (sym c.in-Ok.ensures.options) in
    let why = no_copy_shown c.args.root c.args.options c.args.bytes.now (_, m.0) m.1 c.in-Some.levels (same ∙ sym c.in-Some.ensures) c.in_err-copy.field-0.0 c.in_err-copy.ensures.refused in
    refused (IsShowFault c.args.root c.args.options c.args.bytes.now) c.from_residual.result c.in_err-copy.field-0.0 c.from_residual.ensures.1 why

pub returns-clause-text : goal.returns-clause-text
returns-clause-text c =
    let m = c.in-Ok.ensures.message in
    let same = ap (λ (o : ReaderOptions). levels o.nesting_limit) (sym c.in-Ok.ensures.options) in
    let n = c.in-Some.levels in
    let deep : levels c.args.options.nesting_limit ≡ Some n = same ∙ sym c.in-Some.ensures in
    let limit = c.arena_like-arena.result.nesting_limit in
    let copy = segments_of c.in_ok-copy.copy in
    let is = c.in_ok-copy.ensures.copy in
    let r = c.args.root in
    let o = c.args.options in
    let bs = c.args.bytes.now in
    let root = copy_root r o bs (_, m.0) m.1 n deep copy is limit (ap levels c.arena_like-arena.ensures.nesting ∙ sym c.in-Some.ensures) c.values_that_are_read.ensures.fits c.values_that_are_read.ensures.deep c.trimmed_values.ensures.fits c.trimmed_values.ensures.depth c.words_mean_their_value.ensures.means in
    let there : HasRoot limit (segments_of c.arena_like-arena.result.segments) (trim is.value) = subst (λ (k : CanonicalMessage). HasRoot limit (segments_of k) (trim is.value)) (sym c.arena_like-arena.ensures.segments) root in
    if_ok c.text_of.result (λ v h. text_is r o bs (_, m.0) m.1 n deep copy is v.items (h (trim is.value) there)) c.text_of.ensures.text

pub returns-clause-fault : goal.returns-clause-fault
returns-clause-fault c =
    let m = c.in-Ok.ensures.message in
    let same = ap (λ (o : ReaderOptions). levels o.nesting_limit) (sym c.in-Ok.ensures.options) in
    let n = c.in-Some.levels in
    let deep : levels c.args.options.nesting_limit ≡ Some n = same ∙ sym c.in-Some.ensures in
    let limit = c.arena_like-arena.result.nesting_limit in
    let copy = segments_of c.in_ok-copy.copy in
    let is = c.in_ok-copy.ensures.copy in
    let r = c.args.root in
    let o = c.args.options in
    let bs = c.args.bytes.now in
    let root = copy_root r o bs (_, m.0) m.1 n deep copy is limit (ap levels c.arena_like-arena.ensures.nesting ∙ sym c.in-Some.ensures) c.values_that_are_read.ensures.fits c.values_that_are_read.ensures.deep c.trimmed_values.ensures.fits c.trimmed_values.ensures.depth c.words_mean_their_value.ensures.means in
    let there : HasRoot limit (segments_of c.arena_like-arena.result.segments) (trim is.value) = subst (λ (k : CanonicalMessage). HasRoot limit (segments_of k) (trim is.value)) (sym c.arena_like-arena.ensures.segments) root in
    if_err c.text_of.result (λ e h. fault_is r o bs (_, m.0) m.1 n deep copy is e (h (trim is.value) there)) c.text_of.ensures.fault
