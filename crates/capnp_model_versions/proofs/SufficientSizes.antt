-- Sizes suffice where calls hold short lists and few words are written.
use Rattle.std.proofs.Common.{◌≡◌, ℕ, ◌+◌, ◌*◌, ◌^◌, ◌<◌, ◌≤◌, List, [], ◌∷◌, ◌++◌, length, sym, ◌∙◌, ap, subst, arith}
use Rattle.std.specs.List.{AllByRecursion}
use Rattle.std.proofs.lemmas.List.{length-append}
use Rattle.capnp_model.specs.Segments.{Segments}
use Rattle.capnp_model.specs.Sections.{words_of}
use Rattle.capnp_model.specs.Trees.{Tree, null, capability, structure, plain_list, pointer_list, struct_list, Trees, none, ◌▸◌, Elements, no_elements, element, element_count}
use Rattle.capnp_model.specs.Trimming.{trim}
use Rattle.capnp_model.specs.Fits.{Fits}
use Rattle.capnp_model.specs.Encoding.{body, links, bodies, cells, element_bodies, canonical_words}
use Rattle.capnp_model.specs.Schemas.{Node}
use Rattle.capnp_model.specs.Accepted.{schema_of}
use Rattle.capnp_model.specs.Calls.{whole_number, truth, enumerant, text_value, blob_value, message, Verb, get, set_to, init, initn, clear, Call}
use Rattle.capnp_model.specs.Answers.{Answer, refused_value, refused_root, refused_depth, written, Limits, opened_root}
use Rattle.capnp_model.specs.Runs.{AnswerEach}
use Rattle.capnp_model.specs.SameRuns.{IsAnswerIn}
use Rattle.capnp_model.proofs.lemmas.Chaining.{some_is}
use Rattle.capnp_model.proofs.lemmas.Numbers.{length-numbers_in}
use Rattle.capnp_model.proofs.lemmas.RoundTrip.{links_length}
use Rattle.capnp_model_versions.specs.Fitting.{HasShortLists, AllHaveShortLists, ElementsHaveShortLists, IsSpelledVerb, HoldsShortLists, AreSpelled}
use Rattle.capnp_model_versions.specs.OwnOutput.{edited_value, SizesSuffice, HaveFewWords, HoldsOfWritten, SufficeEach, relay_of}
use Rattle.capnp_model_versions.specs.TwoRelays.{RelayWrites}
use Rattle.capnp_model_versions.proofs.FittingParts.{any_lengths, short_lengths, FitsBy, AllFitBy, ElementsFitBy, SpelledBy, of-any, numbers-of, fits-by-parts}
use Rattle.capnp_model_versions.proofs.FittingTrims.{numbers-trim}
use Rattle.capnp_model_versions.proofs.FittingSchemas.{schema-fits, all-edited-numbers}
use Rattle.capnp_model_versions.proofs.lemmas.WrittenValues.{has-written, value-fits, opened-fits}

-- ---- few words, short lists

cells-length : (before d k : ℕ) (es : Elements) → ElementsFitBy short_lengths d k es → length (cells before d k es) ≡ element_count es * (d + k)
cells-length before d k no_elements f = omega arith
cells-length before d k (element section ts es) f =
    let l = links (element_count es * (d + k)) before ts in
    let c = cells (before + length (bodies ts)) d k es in
    let rest = cells-length (before + length (bodies ts)) d k es f.3 in
    omega (arith, length-append (words_of d section) (l ++ c), length-append l c, length-numbers_in 64 d section, links_length ts (element_count es * (d + k)) before, rest, f.1)

mutual
  short-lists : (t : Tree) → FitsBy short_lengths t → length (body t) < 2 ^ 29 → HasShortLists t
  short-lists null f l = tt
  short-lists (capability i) f l = tt
  short-lists (structure w n ts) f l = all-short ts f.3 (omega (arith, l, length-append (words_of w n) (links 0 0 ts ++ bodies ts), length-append (links 0 0 ts) (bodies ts)))
  short-lists (plain_list z n x) f l = f.2
  short-lists (pointer_list ts) f l = (f.0, all-short ts f.1 (omega (arith, l, length-append (links 0 0 ts) (bodies ts))))
  short-lists (struct_list d k es) f l =
      let both = length-append (cells 0 d k es) (element_bodies es) in
      let own = cells-length 0 d k es f.3 in
      (f.2, omega (arith, l, both, own), elements-short d k es f.3 (omega (arith, l, both)))

  all-short : (ts : Trees) → AllFitBy short_lengths ts → length (bodies ts) < 2 ^ 29 → AllHaveShortLists ts
  all-short none f l = tt
  all-short (t ▸ ts) f l =
      let both = length-append (body t) (bodies ts) in
      (short-lists t f.0 (omega (arith, l, both)), all-short ts f.1 (omega (arith, l, both)))

  elements-short : (d k : ℕ) (es : Elements) → ElementsFitBy short_lengths d k es → length (element_bodies es) < 2 ^ 29 → ElementsHaveShortLists es
  elements-short d k no_elements f l = tt
  elements-short d k (element n ts es) f l =
      let both = length-append (bodies ts) (element_bodies es) in
      (all-short ts f.2 (omega (arith, l, both)), elements-short d k es f.3 (omega (arith, l, both)))

-- ---- calls with short lists

short-verb : (verb : Verb) → IsSpelledVerb verb → HoldsShortLists verb → SpelledBy short_lengths verb
short-verb get h k = tt
short-verb (set_to (whole_number z)) h k = tt
short-verb (set_to (truth b)) h k = tt
short-verb (set_to (enumerant n)) h k = h
short-verb (set_to (text_value bs)) h k = k
short-verb (set_to (blob_value bs)) h k = k
short-verb (set_to (message t)) h k = numbers-of short_lengths t (fits-by-parts any_lengths t (of-any t h) k)
short-verb init h k = tt
short-verb (initn n) h k = (omega (arith, k), k)
short-verb clear h k = tt

short-verbs : (calls : List Call) → AllByRecursion (λ c. IsSpelledVerb c.verb) calls → AllByRecursion (λ c. HoldsShortLists c.verb) calls → AllByRecursion (λ c. SpelledBy short_lengths c.verb) calls
short-verbs [] h k = tt
short-verbs (c ∷ cs) h k = (short-verb c.verb h.0 k.0, short-verbs cs h.1 k.1)

few-words : (t : Tree) → length (canonical_words t) ≤ 2 ^ 29 → length (body t) < 2 ^ 29
unfolding canonical_words
few-words t h = omega (arith, h)

-- THE LAW
pub sizes-suffice : (nodes : List Node) (quoted : List ℕ → List ℕ) (id : ℕ) (calls : List Call) (limits : Limits) (source segments : Segments) → AreSpelled nodes calls → AllByRecursion (λ c. HoldsShortLists c.verb) calls
    → RelayWrites (relay_of nodes quoted id calls limits) source segments → HaveFewWords segments → SizesSuffice (relay_of nodes quoted id calls limits) source
unfolding opened_root
sizes-suffice nodes quoted id calls limits source segments spelled short writes few t is_value =
    let w = has-written (relay_of nodes quoted id calls limits) source segments writes.0 writes.1 in
    let same : w.value ≡ t = some_is w.value t (sym w.is_value ∙ is_value) in
    let e : Tree = edited_value (relay_of nodes quoted id calls limits) t in
    let words : HaveFewWords (canonical_words (trim e) ∷ []) = subst HaveFewWords (w.is_written ∙ ap (λ z. canonical_words (trim (edited_value (relay_of nodes quoted id calls limits) z)) ∷ []) same) few in
    let opened : Fits (opened_root (schema_of nodes) id t) = opened-fits any_lengths ((schema_of nodes).shape_of id) t (schema-fits any_lengths nodes spelled.accepted spelled.small id) (value-fits limits source t is_value) in
    let edited : FitsBy short_lengths e =
    all-edited-numbers short_lengths nodes spelled.accepted spelled.small id calls (short-verbs calls spelled.verbs short) (opened_root (schema_of nodes) id t) (numbers-of short_lengths (opened_root (schema_of nodes) id t) opened) in
    (short-lists (trim e) (numbers-trim short_lengths e edited) (few-words (trim e) words.0), words.0)

-- and for each message that a run writes
pub suffice-each : (nodes : List Node) (quoted : List ℕ → List ℕ) (id : ℕ) (calls : List Call) (limits : Limits) (messages : List Segments) (answers : List Answer) → AreSpelled nodes calls → AllByRecursion (λ c. HoldsShortLists c.verb) calls
    → AnswerEach (IsAnswerIn (relay_of nodes quoted id calls limits)) messages answers → HoldsOfWritten (λ s segments. HaveFewWords segments) messages answers → SufficeEach (relay_of nodes quoted id calls limits) messages answers
suffice-each nodes quoted id calls limits messages answers spelled short = by messages answers
  where
    by : (ms : List Segments) (xs : List Answer) → AnswerEach (IsAnswerIn (relay_of nodes quoted id calls limits)) ms xs → HoldsOfWritten (λ s segments. HaveFewWords segments) ms xs → SufficeEach (relay_of nodes quoted id calls limits) ms xs
    by [] [] a h = tt
    by [] (x ∷ xs) a h = absurd a
    by (m ∷ ms) [] a h = absurd a
    by (m ∷ ms) (refused_value ∷ xs) a h = by ms xs a.1 h
    by (m ∷ ms) (refused_root ∷ xs) a h = by ms xs a.1 h
    by (m ∷ ms) (refused_depth ∷ xs) a h = by ms xs a.1 h
    by (m ∷ ms) (written one rs ∷ xs) a h = (sizes-suffice nodes quoted id calls limits m one spelled short (rs, a.0) h.0, by ms xs a.1 h.1)
