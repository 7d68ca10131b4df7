-- What is put into a trimmed struct or element, and the change that does the same to the whole one.
use Rattle.std.proofs.Common.{◌≡◌, ℕ, ◌*◌, ◌^◌, ◌<◌, ◌≤◌, max, false, Option, Some, None, refl, ap, sym, subst, ◌∙◌, arith}
use Rattle.capnp_model.specs.Sections.{needed_words}
use Rattle.capnp_model.specs.Trees.{Tree, Trees, tree_count, child, with_child, is_null, depth, depths}
use Rattle.capnp_model.specs.Fits.{Fits, FitEach}
use Rattle.capnp_model.specs.Trimming.{stripped, trim, trim_each}
use Rattle.capnp_model.specs.Edits.{Cell, Edit, put_child}
use Rattle.capnp_model.proofs.lemmas.Widening.{stripped-with_child, trim_each-with_child}
use Rattle.capnp_calls_splice.specs.DataWords.{put_set}
use Rattle.capnp_calls_splice.specs.Splices.{PutsNumber, PutsNumberIfAny, PutsMember}
use Rattle.capnp_calls_splice.specs.declared.plain.PlainSet.{PlainSet}
use Rattle.capnp_calls_in_place.proofs.InsideShapes.{IsBelow}
use Rattle.capnp_calls_in_place.proofs.SplicedKids.{child_same, child_fits, count_put, bare_count_more, depths_put}
use Rattle.capnp_model.proofs.lemmas.TrimTwice.{null_trimmed}

-- A trimmed cell, of so many words, and the whole one.
pub record IsCut (words : ℕ) (cut old : Cell) : Type 0 where
  pub section : old.section ≡ cut.section
  pub kids : stripped (trim_each old.kids) ≡ stripped cut.kids
  pub inside : cut.section < 2 ^ (64 * words)
  pub fit : FitEach cut.kids

-- The whole cell, of n words, becomes what the trimmed one becomes, of m words, of which all are needed where all n were.
pub record Follows (limit n m : ℕ) (cut new old edited : Cell) : Type 0 where
  pub section : edited.section ≡ new.section
  pub kids : stripped (trim_each edited.kids) ≡ stripped new.kids
  pub inside : new.section < 2 ^ (64 * m)
  pub most : m ≤ max n limit
  pub words : needed_words n cut.section ≡ n → needed_words m new.section ≡ m
  pub count : tree_count new.kids ≡ tree_count cut.kids
  pub least : tree_count (stripped cut.kids) ≤ tree_count (stripped new.kids)
  pub deep : depths edited.kids ≡ depths old.kids

-- What is put into trimmed cells is what the edit does to whole ones, where no cell gets wider than a limit.
abbrev pub IsEditOf : ℕ → (ℕ → ℕ → Cell → Cell → Type 0) → Edit → Type 0
IsEditOf limit puts f = (n m : ℕ) (cut new old : Cell) → IsCut n cut old → puts n m cut new → Follows limit n m cut new old (f old)

-- A value becomes this, trimmed, and none of it is null.
pub record Makes (old edited new : Tree) : Type 0 where
  pub trimmed : trim edited ≡ new
  pub deep : depth edited ≡ depth old
  pub some : is_null (trim old) ≡ false
  pub some_new : is_null new ≡ false

-- What becomes of a trimmed value is what the change does to the whole one.
abbrev pub IsChangeOf : (Tree → Tree → Type 0) → (Tree → Tree) → Type 0
IsChangeOf puts f = (old new : Tree) → Fits (trim old) → puts (trim old) new → Makes old (f old) new

-- ---- a number

-- The change that puts a number.
abbrev pub with_number : PlainSet → Edit
with_number p c = record { section = put_set p c.section; kids = c.kids }

pub number_is : (limit : ℕ) (p : PlainSet) → p.word < limit → IsEditOf limit (PutsNumber p) (with_number p)
number_is limit p below n m cut new old is puts =
    let made = puts.made in
    let most = puts.most in
    let sections : new.section ≡ put_set p cut.section = ap (λ (c : Cell). c.section) made in
    let children : new.kids ≡ cut.kids = ap (λ (c : Cell). c.kids) made in
    record {
      section = ap (put_set p) is.section ∙ sym sections;
      kids = is.kids ∙ ap stripped (sym children);
      inside = puts.fits;
      most = omega (arith, most, below);
      words = puts.least;
      count = ap tree_count children;
      least = (let same = ap (λ (ts : Trees). tree_count (stripped ts)) children in omega (arith, same));
      deep = refl;
    }

-- ---- a number after another

-- The change that puts a number, if there is one.
abbrev pub with_any : Option PlainSet → Edit
with_any None c = c
with_any (Some p) c = with_number p c

-- What the whole cell becomes after such a change of one that was followed.
then_any : (limit : ℕ) (p : Option PlainSet) → IsBelow limit p → (n w m : ℕ) (cut marked new old edited : Cell) → FitEach marked.kids → Follows limit n w cut marked old edited → PutsNumberIfAny p w m marked new → Follows limit n m cut new old (with_any p edited)
then_any limit None below n w m cut marked new old edited fit first puts =
    subst (λ (k : ℕ). Follows limit n k cut new old edited) (sym puts.0) (subst (λ (c : Cell). Follows limit n w cut c old edited) (sym puts.1) first)
then_any limit (Some p) below n w m cut marked new old edited fit first puts =
    let again : IsCut w marked edited = record { section = first.section; kids = first.kids; inside = first.inside; fit = fit } in
    let second : Follows limit w m marked new edited (with_number p edited) = number_is limit p below w m marked new edited again puts in
    let once = first.most in
    let twice = second.most in
    record {
      section = second.section;
      kids = second.kids;
      inside = second.inside;
      most = omega (arith, once, twice);
      words = λ e. second.words (first.words e);
      count = second.count ∙ first.count;
      least = (let more = second.least in let before = first.least in omega (arith, more, before));
      deep = second.deep ∙ first.deep;
    }

-- The discriminant of a member, and the member's number, if it has one.
pub member_is : (limit : ℕ) (mark : PlainSet) (p : Option PlainSet) → mark.word < limit → IsBelow limit p → IsEditOf limit (PutsMember mark p) (λ c. with_any p (with_number mark c))
member_is limit mark p marks below n m cut new old is put =
    let marked : Cell = put.marked in
    let children : marked.kids ≡ cut.kids = ap (λ (c : Cell). c.kids) put.first.made in
    then_any limit p below n put.words m cut marked new old (with_number mark old) (subst FitEach (sym children) is.fit) (number_is limit mark marks n put.words cut marked old is put.first) put.second

-- ---- a child

pub child_is : (limit : ℕ) (puts : Tree → Tree → Type 0) (f : Tree → Tree) (i : ℕ) → IsChangeOf puts f → IsEditOf limit (λ n m old new. (m ≡ n) × (t : Tree) × puts (child old.kids i) t × (new ≡ put_child i t old)) (λ c. put_child i (f (child c.kids i)) c)
child_is limit puts f i h n m cut new old is p =
    let t : Tree = p.1 in
    let was : Tree = child old.kids i in
    let same : child cut.kids i ≡ trim was = child_same old.kids cut.kids i is.kids in
    let made : Makes was (f was) t = h was t (subst Fits same (child_fits cut.kids i is.fit)) (subst (λ (u : Tree). puts u t) same p.2) in
    let some : is_null (child cut.kids i) ≡ false = ap is_null same ∙ made.some in
    let sections : new.section ≡ cut.section = ap (λ (c : Cell). c.section) p.3 in
    let children : new.kids ≡ with_child cut.kids i t = ap (λ (c : Cell). c.kids) p.3 in
    let kids : stripped (trim_each (with_child old.kids i (f was))) ≡ stripped (with_child cut.kids i t) =
    ap stripped (trim_each-with_child old.kids i (f was)) ∙ ap (λ (u : Tree). stripped (with_child (trim_each old.kids) i u)) made.trimmed
    ∙ sym (stripped-with_child (trim_each old.kids) i t) ∙ ap (λ (us : Trees). stripped (with_child us i t)) is.kids ∙ stripped-with_child cut.kids i t in
    let wide = p.0 in
    record {
      section = is.section ∙ sym sections;
      kids = kids ∙ ap stripped (sym children);
      inside = subst (λ (k : ℕ). new.section < 2 ^ (64 * k)) (sym wide) (subst (λ (s : ℕ). s < 2 ^ (64 * n)) (sym sections) is.inside);
      most = omega (arith, wide);
      words = λ e. ap (needed_words m) sections ∙ ap (λ (k : ℕ). needed_words k cut.section) wide ∙ e ∙ sym wide;
      count = ap tree_count children ∙ count_put cut.kids i t some;
      least = (let same = ap (λ (us : Trees). tree_count (stripped us)) children in let more = bare_count_more cut.kids i t made.some_new in omega (arith, same, more));
      deep = depths_put old.kids i (f was) (sym (null_trimmed was) ∙ made.some) made.deep;
    }
