use Rattle.std.proofs.Common.{◌≡◌, ◌==◌, ◌+◌, ◌<◌, ◌||◌, ◌∷◌, ℕ, Bool, true, false, nat_eq, if◌then◌else◌, cond, Option, Some, List, [], length, take, get_or, refl, sym, ◌∙◌, ap}
use Rattle.std.specs.HashMap.{get}
use Rattle.std.specs.List.{list_any}
use Rattle.std.proofs.lemmas.List.{take_all, take_more}
use Rattle.capnp_records.proofs.lemmas.ListTests.{list_any-append}
use Rattle.capnp_records.proofs.groups.put_all.Goals as goal

either : (a b : Bool) (place : ℕ) (old : Option ℕ) → cond b (Some place) (if a then Some place else old) ≡ (if a || (b || false) then Some place else old)
either true true place old = refl
either true false place old = refl
either false true place old = refl
either false false place old = refl

-- one id more has the place
one_more : (gs : List ℕ) (i id place : ℕ) (old now new : Option ℕ) → i < length gs → now ≡ (if list_any (λ g. g == id) (take i gs) then Some place else old) → new ≡ cond (get_or gs i 0 == id) (Some place) now
    → new ≡ (if list_any (λ g. g == id) (take (i + 1) gs) then Some place else old)
one_more gs i id place old now new lt is put =
    put
    ∙ ap (λ o. cond (get_or gs i 0 == id) (Some place) o) is
    ∙ either (list_any (λ g. g == id) (take i gs)) (get_or gs i 0 == id) place old
    ∙ ap (λ b. if b then Some place else old) (sym (ap (list_any (λ g. g == id)) (take_more gs i 0 lt) ∙ list_any-append (λ g. g == id) (take i gs) (get_or gs i 0 ∷ [])))

pub loop-group-preserved : goal.loop-group-preserved
loop-group-preserved c = λ id.
    one_more c.args.groups.now c.loop-group.group-index id c.args.place (get nat_eq c.args.holders.now id) (get nat_eq c.loop-group.holders id) (get nat_eq c.insert.new.self id)
    c.loop-group-test.true (c.loop-group.invariant id) (c.in_ok-insert.ensures.updates.0 id)

pub returns : goal.returns
returns c = λ id.
    c.loop-group.invariant id
    ∙ ap (λ gs. if list_any (λ g. g == id) gs then Some c.args.place else get nat_eq c.args.holders.now id) (take_all c.loop-group.group-index c.args.groups.now c.loop-group-test.false)
