use Rattle.std.proofs.Common.{◌≡◌, List, ℕ, sym, ◌∙◌, ap}
use Rattle.std.specs.Str.{bytes_eq}
use Rattle.capnp_model.specs.Partners.{partner_name}
use Rattle.capnp_calls_versions.specs.Renamed.{names_in}
use Rattle.capnp_calls_versions.proofs.FirstPlaces.{place_where, placed_inside, placed_item, not_placed}
use Rattle.capnp_calls_versions.proofs.PartnerPlaces.{is_renamed_to, keeps_name, is_partner_to, none_renamed, one_renamed, one_kept, none_kept, partner_place}
use Rattle.capnp_calls_versions.proofs.extended.find_partner.Goals.{in-None, in-Some, then-eq, else-eq}
use Rattle.capnp_calls_versions.proofs.extended.find_partner.Goals as goal

pub bounds-node-place : goal.bounds-node-place
bounds-node-place c =
    let rs = names_in c.args.names.now in
    let id = c.args.node.id in
    let n = c.args.name.now in
    let fs = c.args.node.fields.now in
    let told : c.match-older.renamed ≡ place_where (is_renamed_to rs id n) 0 fs = elim c.match-older.branch [ in-None w ↦ w.renamed-is ∙ none_renamed rs id n fs w.in-None.ensures | in-Some w ↦ w.renamed-is ∙ w.place-renamed.ensures ∙ one_renamed rs id n fs w.in-Some.older.now w.in-Some.ensures ] in
    let same : bytes_eq (partner_name rs id n) n ≡ c.eq.result = ap (λ (m : List ℕ). bytes_eq m n) (sym c.partner.ensures) ∙ sym c.eq.ensures in
    let kept : c.if-eq.kept ≡ place_where (keeps_name rs id n) 0 fs = elim c.if-eq.branch [ then-eq w ↦ w.kept-is ∙ w.place-kept.ensures ∙ one_kept rs id n fs (same ∙ w.if-eq.true) | else-eq w ↦ w.kept-is ∙ none_kept rs id n fs (same ∙ w.if-eq.false) ] in
    let place : c.first_of.result ≡ place_where (is_partner_to rs id n) 0 fs = partner_place rs id n fs c.args.names.now.distinct c.first_of.result c.match-older.renamed c.if-eq.kept c.first_of.ensures told kept in
    placed_inside (is_partner_to rs id n) c.in-Some-first_of.place fs (sym place ∙ c.in-Some-first_of.is)

pub returns-in-None-first_of : goal.returns-in-None-first_of
returns-in-None-first_of c =
    let rs = names_in c.args.names.now in
    let id = c.args.node.id in
    let n = c.args.name.now in
    let fs = c.args.node.fields.now in
    let told : c.match-older.renamed ≡ place_where (is_renamed_to rs id n) 0 fs = elim c.match-older.branch [ in-None w ↦ w.renamed-is ∙ none_renamed rs id n fs w.in-None.ensures | in-Some w ↦ w.renamed-is ∙ w.place-renamed.ensures ∙ one_renamed rs id n fs w.in-Some.older.now w.in-Some.ensures ] in
    let same : bytes_eq (partner_name rs id n) n ≡ c.eq.result = ap (λ (m : List ℕ). bytes_eq m n) (sym c.partner.ensures) ∙ sym c.eq.ensures in
    let kept : c.if-eq.kept ≡ place_where (keeps_name rs id n) 0 fs = elim c.if-eq.branch [ then-eq w ↦ w.kept-is ∙ w.place-kept.ensures ∙ one_kept rs id n fs (same ∙ w.if-eq.true) | else-eq w ↦ w.kept-is ∙ none_kept rs id n fs (same ∙ w.if-eq.false) ] in
    let place : c.first_of.result ≡ place_where (is_partner_to rs id n) 0 fs = partner_place rs id n fs c.args.names.now.distinct c.first_of.result c.match-older.renamed c.if-eq.kept c.first_of.ensures told kept in
    sym (not_placed (is_partner_to rs id n) 0 fs (sym place ∙ c.in-None-first_of.is))

pub returns-in-Some-first_of : goal.returns-in-Some-first_of
returns-in-Some-first_of c =
    let rs = names_in c.args.names.now in
    let id = c.args.node.id in
    let n = c.args.name.now in
    let fs = c.args.node.fields.now in
    let told : c.match-older.renamed ≡ place_where (is_renamed_to rs id n) 0 fs = elim c.match-older.branch [ in-None w ↦ w.renamed-is ∙ none_renamed rs id n fs w.in-None.ensures | in-Some w ↦ w.renamed-is ∙ w.place-renamed.ensures ∙ one_renamed rs id n fs w.in-Some.older.now w.in-Some.ensures ] in
    let same : bytes_eq (partner_name rs id n) n ≡ c.eq.result = ap (λ (m : List ℕ). bytes_eq m n) (sym c.partner.ensures) ∙ sym c.eq.ensures in
    let kept : c.if-eq.kept ≡ place_where (keeps_name rs id n) 0 fs = elim c.if-eq.branch [ then-eq w ↦ w.kept-is ∙ w.place-kept.ensures ∙ one_kept rs id n fs (same ∙ w.if-eq.true) | else-eq w ↦ w.kept-is ∙ none_kept rs id n fs (same ∙ w.if-eq.false) ] in
    let place : c.first_of.result ≡ place_where (is_partner_to rs id n) 0 fs = partner_place rs id n fs c.args.names.now.distinct c.first_of.result c.match-older.renamed c.if-eq.kept c.first_of.ensures told kept in
    sym (placed_item (is_partner_to rs id n) c.in-Some-first_of.place fs c.index-node-place.result (sym place ∙ c.in-Some-first_of.is))
