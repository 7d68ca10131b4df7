-- The tokens of a source. (Cap'n Proto's schema language; lexer.c++ of the compiler)
use Rattle.std.specs.Prelude.{◌≡◌, ℕ, ◌+◌, ◌<◌, ◌≤◌, ◌==◌, ◌&&◌, false, Option, Some, None, option_map, List, [], ◌∷◌, length, drop, slice_index, if◌then◌else◌}
use Rattle.capnp_source_text.specs.Lexemes.{blanks_end, lexeme_of}
use Rattle.capnp_source_text.specs.declared.tokens.Token.{Token}
use Rattle.capnp_source_text.specs.declared.tokens.TokenFault.{TokenFault}
use Rattle.capnp_source_text.specs.declared.tokens.TokenFault.TheVariants as F

-- The number of bytes of the byte order mark of UTF-8 at the front: EF BB BF.
abbrev pub mark_length : List ℕ → ℕ
mark_length bs = if (slice_index bs 0 == 0xef) && (slice_index bs 1 == 0xbb) && (slice_index bs 2 == 0xbf) then 3 else 0

-- The place of the next token: after blanks.
abbrev pub next_start : List ℕ → ℕ → ℕ
next_start text from = from + blanks_end 0 false (drop from text)

-- The token at an offset.
abbrev pub token_at : List ℕ → ℕ → Option Token
token_at text start = option_map (λ x. record { kind = x.kind; start = start; end = start + x.len }) (lexeme_of (drop start text))

-- A token that has at least one byte, all in the text.
abbrev pub LiesIn : List ℕ → Token → Type 0
LiesIn text t = (t.start < t.end) × (t.end ≤ length text)

-- The tokens between two offsets. The first token begins at the first offset, and each later one after the blanks that
-- follow the one before.
abbrev pub AreTokensFrom : List ℕ → ℕ → ℕ → List Token → Type 0
AreTokensFrom text last start [] = start ≡ last
AreTokensFrom text last start (t ∷ ts) = (token_at text start ≡ Some t) × AreTokensFrom text last (next_start text t.end) ts

-- The tokens of a source before an offset at which the next would begin.
abbrev pub AreTokensBefore : List ℕ → ℕ → List Token → Type 0
AreTokensBefore text last ts = AreTokensFrom text last (next_start text (mark_length text)) ts

-- All tokens of a source.
abbrev pub AreTokens : List ℕ → List Token → Type 0
AreTokens text ts = AreTokensBefore text (length text) ts

-- A fault at an offset in the text: tokens lead there, and none begins.
abbrev pub IsTokenFault : List ℕ → TokenFault → Type 0
IsTokenFault text (F.NoToken at) = (at < length text) × (token_at text at ≡ None) × ((ts : List Token) × AreTokensBefore text at ts)
IsTokenFault text F.Memory = Unit {0}
