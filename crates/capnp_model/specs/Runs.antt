-- What a relay makes of a stream of messages.
use Rattle.std.specs.Prelude.{ℕ, ◌+◌, ◌≡◌, List, [], ◌∷◌, ◌++◌, Option, Ok, Err, codes, decimal}
use Rattle.std.specs.List.{flat_map}
use Rattle.capnp_model.specs.Kinds.{Kind, kind_name}
use Rattle.capnp_model.specs.Segments.{Segments}
use Rattle.capnp_model.specs.Messages.{Reader, Writer, message_at, spelled}
use Rattle.capnp_model.specs.Answers.{Reply, reply_text, reply_done, reply_refused, Answer, refused_value, refused_root, refused_depth, written}

-- The text of a reply.
abbrev pub reply_words : Reply → List ℕ
reply_words (reply_text t) = t
reply_words reply_done = codes "done"
reply_words (reply_refused k) = codes "refused " ++ kind_name k

-- What a log line says of an answer.
abbrev pub answer_words : Answer → List ℕ
answer_words refused_value = codes "refused: value"
answer_words refused_root = codes "refused: root"
answer_words refused_depth = codes "refused: depth"
answer_words (written words replies) = codes "written" ++ flat_map (λ r. codes "; " ++ reply_words r) replies

-- The log line of the answer to message n.
abbrev pub line_of : ℕ → Answer → List ℕ
line_of n a = codes "message " ++ (decimal n ++ (codes " " ++ (answer_words a ++ codes "\n")))

-- What goes out for an answer: the written segments as one message, in the form of the writer.
abbrev pub output_of : Writer → Answer → List ℕ
output_of write (written segments replies) = spelled write segments
output_of write _ = []

-- What goes out for answers.
abbrev pub outputs_of : Writer → List Answer → List ℕ
outputs_of write answers = flat_map (output_of write) answers

-- What is logged of answers, the first of which is that to message n.
abbrev pub lines_of : ℕ → List Answer → List ℕ
lines_of n [] = []
lines_of n (a ∷ answers) = line_of n a ++ lines_of (n + 1) answers

-- The answers are those to the messages, one each.
abbrev pub AnswerEach : (Segments → Answer → Type 0) → List Segments → List Answer → Type 0
AnswerEach is_answer [] [] = Unit {0}
AnswerEach is_answer (s ∷ messages) (a ∷ answers) = is_answer s a × AnswerEach is_answer messages answers
AnswerEach is_answer _ _ = ⊥

-- Bytes begin with these messages, whose lengths keep the limit, and then the rest.
abbrev pub BeginWith : Reader → Option ℕ → List ℕ → List Segments → List ℕ → Type 0
BeginWith read limit bytes [] rest = bytes ≡ rest
BeginWith read limit bytes (s ∷ messages) rest = (more : List ℕ) × (message_at read limit bytes ≡ Ok (s, more)) × BeginWith read limit more messages rest

-- How a run ends.
pub data End : Type 0 where
  finished : End
  broken : Kind → End

-- The bytes behind the answered messages end a run.
abbrev pub EndsBy : Reader → Option ℕ → List ℕ → End → Type 0
EndsBy read limit rest finished = rest ≡ []
EndsBy read limit rest (broken kind) = (rest ≡ [] → ⊥) × (message_at read limit rest ≡ Err kind)

-- A run over bytes: the messages that they begin with are answered in order. What is written and
-- logged is that of the answers, and the rest ends the run.
pub record IsRun (read : Reader) (write : Writer) (limit : Option ℕ) (is_answer : Segments → Answer → Type 0) (bytes output log : List ℕ) (end : End) : Type 0 where
  pub messages : List Segments
  pub answers : List Answer
  pub rest : List ℕ
  pub begins : BeginWith read limit bytes messages rest
  pub answered : AnswerEach is_answer messages answers
  pub writes : output ≡ outputs_of write answers
  pub logs : log ≡ lines_of 1 answers
  pub ends : EndsBy read limit rest end
