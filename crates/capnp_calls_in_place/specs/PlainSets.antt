-- Calls that set plain fields of a root: numbers put into its data section. (Encoding, "Structs")
use Rattle.std.specs.Prelude.{◌≡◌, ℕ, List, [], ◌∷◌, length, replicate, ⊤}
use Rattle.capnp_model.specs.Trees.{Tree, Trees, structure, depth}
use Rattle.capnp_model.specs.Trimming.{trim}
use Rattle.capnp_model.specs.Fits.{Fits}
use Rattle.capnp_model.specs.Encoding.{canonical_words}
use Rattle.capnp_model.specs.Readings.{Record}
use Rattle.capnp_model.specs.Calls.{Call}
use Rattle.capnp_model.specs.Steps.{step}
use Rattle.capnp_model.specs.Edits.{edit}
use Rattle.capnp_model.specs.Answers.{reply_of, reply_done, replies, edits, widened_root}
use Rattle.capnp_values_queries.specs.Structs.{schema_around, shape_of_struct, id_of}
use Rattle.capnp_values_queries.specs.declared.structs.StructSchema.{StructSchema}
use Rattle.capnp_model.specs.Printing.{as_it_is}
use Rattle.capnp_calls_splice.specs.DataWords.{put_set}
use Rattle.capnp_calls_splice.specs.declared.plain.PlainSet.{PlainSet}

-- A call is done at a root whatever it reads as, and puts a number into its data.
pub record IsPlain (schema : StructSchema) (c : Call) (p : PlainSet) : Type 0 where
  pub replied : (r : Record) → reply_of (schema_around schema) as_it_is (step (schema_around schema) (id_of schema) c r) ≡ reply_done
  pub edited : (words section : ℕ) (kids : Trees) → edit (schema_around schema) (id_of schema) c (widened_root (shape_of_struct schema) (structure words section kids)) ≡ widened_root (shape_of_struct schema) (structure words (put_set p section) kids)

-- Each call does, by the set in its place.
abbrev pub ArePlain : StructSchema → List Call → List PlainSet → Type 0
ArePlain schema [] [] = ⊤
ArePlain schema (c ∷ cs) (p ∷ ps) = IsPlain schema c p × ArePlain schema cs ps
ArePlain schema _ _ = ⊥

-- The value after calls that start from a root, as its schema opens it.
abbrev pub after_calls : StructSchema → List Call → Tree → Tree
after_calls schema calls t = edits (schema_around schema) (id_of schema) calls (widened_root (shape_of_struct schema) t)

-- These are the canonical words of the trimmed value after the calls, each of which is done; it is as deep as before.
pub record SetsWords (schema : StructSchema) (calls : List Call) (t : Tree) (new : List ℕ) : Type 0 where
  pub done : replies (schema_around schema) as_it_is (id_of schema) calls (widened_root (shape_of_struct schema) t) ≡ replicate (length calls) reply_done
  pub words : new ≡ canonical_words (trim (after_calls schema calls t))
  pub fits : Fits (trim (after_calls schema calls t))
  pub deep : depth (after_calls schema calls t) ≡ depth t
