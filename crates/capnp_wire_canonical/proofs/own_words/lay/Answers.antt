-- One word more is laid.
use Rattle.std.proofs.Common.{◌≡◌, ◌+◌, ◌≤◌, List, ℕ, [], length, get_or, set, sym, ◌∙◌, arith}
use Rattle.capnp_wire_canonical.proofs.Rowing.{laid, laid_first, laid_next, laid_all}
use Rattle.capnp_wire_canonical.proofs.own_words.lay.Goals as goal

laid1 : (at : ℕ) (row old : List (List ℕ)) → 1 ≤ length row → at + length row ≤ length old → set old at (get_or row 0 []) ≡ laid at 1 row old
laid1 at row old h room = laid_first at row old (omega arith) room

laid2 : (at : ℕ) (row old : List (List ℕ)) → 2 ≤ length row → at + length row ≤ length old → set (set old at (get_or row 0 [])) (at + 1) (get_or row 1 []) ≡ laid at 2 row old
laid2 at row old h room = laid_next at 1 row old (set old at (get_or row 0 [])) (laid1 at row old (omega arith) room) (omega arith) room

laid3 : (at : ℕ) (row old : List (List ℕ)) → 3 ≤ length row → at + length row ≤ length old → set (set (set old at (get_or row 0 [])) (at + 1) (get_or row 1 [])) (at + 2) (get_or row 2 []) ≡ laid at 3 row old
laid3 at row old h room = laid_next at 2 row old (set (set old at (get_or row 0 [])) (at + 1) (get_or row 1 [])) (laid2 at row old (omega arith) room) (omega arith) room

laid4 : (at : ℕ) (row old : List (List ℕ)) → 4 ≤ length row → at + length row ≤ length old → set (set (set (set old at (get_or row 0 [])) (at + 1) (get_or row 1 [])) (at + 2) (get_or row 2 [])) (at + 3) (get_or row 3 []) ≡ laid at 4 row old
laid4 at row old h room = laid_next at 3 row old (set (set (set old at (get_or row 0 [])) (at + 1) (get_or row 1 [])) (at + 2) (get_or row 2 [])) (laid3 at row old (omega arith) room) (omega arith) room

laid5 : (at : ℕ) (row old : List (List ℕ)) → 5 ≤ length row → at + length row ≤ length old → set (set (set (set (set old at (get_or row 0 [])) (at + 1) (get_or row 1 [])) (at + 2) (get_or row 2 [])) (at + 3) (get_or row 3 [])) (at + 4) (get_or row 4 []) ≡ laid at 5 row old
laid5 at row old h room = laid_next at 4 row old (set (set (set (set old at (get_or row 0 [])) (at + 1) (get_or row 1 [])) (at + 2) (get_or row 2 [])) (at + 3) (get_or row 3 [])) (laid4 at row old (omega arith) room) (omega arith) room

laid6 : (at : ℕ) (row old : List (List ℕ)) → 6 ≤ length row → at + length row ≤ length old → set (set (set (set (set (set old at (get_or row 0 [])) (at + 1) (get_or row 1 [])) (at + 2) (get_or row 2 [])) (at + 3) (get_or row 3 [])) (at + 4) (get_or row 4 [])) (at + 5) (get_or row 5 []) ≡ laid at 6 row old
laid6 at row old h room = laid_next at 5 row old (set (set (set (set (set old at (get_or row 0 [])) (at + 1) (get_or row 1 [])) (at + 2) (get_or row 2 [])) (at + 3) (get_or row 3 [])) (at + 4) (get_or row 4 [])) (laid5 at row old (omega arith) room) (omega arith) room

pub returns-then-row-eq1 : goal.returns-then-row-eq1
returns-then-row-eq1 c = laid1 c.args.at c.args.row.now c.args.into.now (omega (arith, c.if-row-eq1.true)) c.requires ∙ laid_all c.args.at 1 c.args.row.now c.args.into.now (sym c.if-row-eq1.true)

pub returns-then-row-eq2 : goal.returns-then-row-eq2
returns-then-row-eq2 c = laid2 c.args.at c.args.row.now c.args.into.now (omega (arith, c.if-row-eq2.true)) c.requires ∙ laid_all c.args.at 2 c.args.row.now c.args.into.now (sym c.if-row-eq2.true)

pub returns-then-row-eq3 : goal.returns-then-row-eq3
returns-then-row-eq3 c = laid3 c.args.at c.args.row.now c.args.into.now (omega (arith, c.if-row-eq3.true)) c.requires ∙ laid_all c.args.at 3 c.args.row.now c.args.into.now (sym c.if-row-eq3.true)

pub returns-then-row-eq4 : goal.returns-then-row-eq4
returns-then-row-eq4 c = laid4 c.args.at c.args.row.now c.args.into.now (omega (arith, c.if-row-eq4.true)) c.requires ∙ laid_all c.args.at 4 c.args.row.now c.args.into.now (sym c.if-row-eq4.true)

pub returns-then-row-eq5 : goal.returns-then-row-eq5
returns-then-row-eq5 c = laid5 c.args.at c.args.row.now c.args.into.now (omega (arith, c.if-row-eq5.true)) c.requires ∙ laid_all c.args.at 5 c.args.row.now c.args.into.now (sym c.if-row-eq5.true)

pub returns : goal.returns
returns c =
    let few = c.if-row-gt-FEW_WORDS.false in
    let not0 = c.if-row-eq0.false in
    let not1 = c.if-row-eq1.false in
    let not2 = c.if-row-eq2.false in
    let not3 = c.if-row-eq3.false in
    let not4 = c.if-row-eq4.false in
    let not5 = c.if-row-eq5.false in
    let all : 6 ≡ length c.args.row.now = omega arith in
    laid6 c.args.at c.args.row.now c.args.into.now (omega arith) c.requires ∙ laid_all c.args.at 6 c.args.row.now c.args.into.now all
