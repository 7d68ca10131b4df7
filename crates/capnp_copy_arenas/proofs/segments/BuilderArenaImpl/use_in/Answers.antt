-- The segments stand in their list again, one of them with more used words.
use Rattle.std.proofs.Common.{◌≡◌, ℕ, ◌+◌, ◌^◌, ◌<◌, ◌≤◌, ◌++◌, ◌⊎◌, inl, inr, Option, None, List, length, get_or, refl, ap, sym, ◌∙◌, subst, arith}
use Rattle.std.specs.Option.{IfSome, IfNone, OnSome}
use Rattle.capnp_copy_arenas.specs.declared.allocator.SegmentBytes.{Ghosts}
use Rattle.capnp_copy_arenas.specs.declared.held.Held.{Held}
use Rattle.capnp_copy_arenas.specs.Allocations.{total_of}
use Rattle.capnp_copy_arenas.specs.Holding.{free_words, EndsAt, IsFull}
use Rattle.capnp_copy_arenas.proofs.Changed.{changed_number, changed_sum, kept_sum, kept_loans, changed_words, changed_room, unchanged}
use Rattle.capnp_copy_arenas.proofs.segments.BuilderArenaImpl.use_in.Goals as goal

not_some : {X : Type 0} (o : Option X) (P : X → Type 0) → o ≡ None → IfSome o P
not_some {X = X} o P e = subst (λ (x : Option X). IfSome x P) (sym e) tt

never_some : {X : Type 0} (o : Option X) (P : Type 0) → o ≡ None → OnSome o P
never_some {X = X} o P e = subst (λ (x : Option X). OnSome x P) (sym e) tt

if_none : {X : Type 0} (o : Option X) (P : Type 0) → o ≡ None → P → IfNone o P
if_none {X = X} o P e h = subst (λ (x : Option X). IfNone x P) (sym e) h

-- where it ends in the list as it was
ends_before : {S : Type 0} {g : Ghosts S} (xs zs : List (Held S g)) (i at : ℕ) → zs ≡ xs → EndsAt zs i at → EndsAt xs i at
ends_before {S = S} {g = g} xs zs i at same h = subst (λ (us : List (Held S g)). EndsAt us i at) same h

room_before : {S : Type 0} {g : Ghosts S} (xs zs : List (Held S g)) (i n : ℕ) → zs ≡ xs → n ≤ get_or (free_words zs) i 0 → n ≤ get_or (free_words xs) i 0
room_before {S = S} {g = g} xs zs i n same h = subst (λ (us : List (Held S g)). n ≤ get_or (free_words us) i 0) same h

-- the limit of the message isn't why it is full
full_before : {S : Type 0} {g : Ghosts S} (xs zs : List (Held S g)) (i n words : ℕ) → zs ≡ xs → words ≡ total_of (λ (h : Held S g). h.used) xs → words + n < 2 ^ 29
    → (length zs ≤ i) ⊎ (get_or (free_words zs) i 0 < n) ⊎ (2 ^ 32 ≤ total_of (λ (h : Held S g). h.used) zs + n) → IsFull xs i n
full_before {S = S} {g = g} xs zs i n words same sum few (inl past) = inl (subst (λ (us : List (Held S g)). length us ≤ i) same past)
full_before {S = S} {g = g} xs zs i n words same sum few (inr (inl little)) = inr (subst (λ (us : List (Held S g)). get_or (free_words us) i 0 < n) same little)
full_before {S = S} {g = g} xs zs i n words same sum few (inr (inr many)) = let total = sum ∙ ap (total_of (λ (h : Held S g). h.used)) (sym same) in absurd (omega arith)

pub invariant_of-self : goal.invariant_of-self
invariant_of-self g c =
    let a = c.args.self.now in
    let zs = c.as_mut_slice.result.now in
    let same = c.as_mut_slice.ensures.value in
    let whole = c.as_mut_slice.ensures.len in
    let kept = c.grow_in.ensures.len in
    record {
      sum = kept_sum a.segments.len a.segments.items zs c.grow_in.new.all same whole kept a.words a.sum (ap (total_of (λ h. h.used)) c.in_err-at.ensures.none);
      few = a.few;
      numbered = changed_number a.segments.len a.segments.items zs c.grow_in.new.all same whole kept a.numbered;
    }

pub returns-in_err-at : goal.returns-in_err-at
returns-in_err-at g c =
    let a = c.args.self.now in
    let zs = c.as_mut_slice.result.now in
    let same = c.as_mut_slice.ensures.value in
    let whole = c.as_mut_slice.ensures.len in
    let kept = c.grow_in.ensures.len in
    let o = c.from_residual.result in
    let e = c.from_residual.ensures in
    record {
      at = not_some o _ e;
      words = not_some o _ e;
      room = never_some o _ e;
      left = never_some o _ e;
      full = if_none o _ e (full_before a.segments.items zs c.args.segment c.args.words a.words same a.sum c.requires c.in_err-at.ensures.full);
      none = if_none o _ e (unchanged a.segments.len a.segments.items zs c.grow_in.new.all same whole kept c.in_err-at.ensures.none);
      capacity = refl;
      allocator = refl;
      place = refl;
      loans = ap (λ (names : List ℕ). names ++ g.A.Allocator.loans a.allocator) (kept_loans a.segments.len a.segments.items zs c.grow_in.new.all same whole kept c.grow_in.ensures.loans);
    }

pub invariant_of-self-2 : goal.invariant_of-self-2
invariant_of-self-2 g c =
    let a = c.args.self.now in
    let zs = c.as_mut_slice.result.now in
    let same = c.as_mut_slice.ensures.value in
    let whole = c.as_mut_slice.ensures.len in
    let kept = c.grow_in.ensures.len in
    record {
      sum = changed_sum a.segments.len a.segments.items zs c.grow_in.new.all same whole kept a.words c.args.words a.sum c.in_ok-at.ensures.total;
      few = c.requires;
      numbered = changed_number a.segments.len a.segments.items zs c.grow_in.new.all same whole kept a.numbered;
    }

pub returns : goal.returns
returns g c =
    let a = c.args.self.now in
    let zs = c.as_mut_slice.result.now in
    let same = c.as_mut_slice.ensures.value in
    let whole = c.as_mut_slice.ensures.len in
    let kept = c.grow_in.ensures.len in
    record {
      at = ends_before a.segments.items zs c.args.segment c.in_ok-at.at same c.in_ok-at.ensures.at;
      words = changed_words a.segments.len a.segments.items zs c.grow_in.new.all same whole kept c.args.segment c.args.words c.in_ok-at.ensures.words;
      room = room_before a.segments.items zs c.args.segment c.args.words same c.in_ok-at.ensures.room;
      left = changed_room a.segments.len a.segments.items zs c.grow_in.new.all same whole kept c.args.segment c.args.words c.in_ok-at.ensures.left;
      full = tt;
      none = tt;
      capacity = refl;
      allocator = refl;
      place = refl;
      loans = ap (λ (names : List ℕ). names ++ g.A.Allocator.loans a.allocator) (kept_loans a.segments.len a.segments.items zs c.grow_in.new.all same whole kept c.grow_in.ensures.loans);
    }
