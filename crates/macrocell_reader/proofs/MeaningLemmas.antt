-- The faults of a text's lines, one after the other, and what a text means.
use Rattle.std.proofs.Common.{◌≡◌, ℕ, Bool, true, false, cond, List, [], ◌∷◌, ◌++◌, drop, Option, Some, None, MatchOption, Ok, Err, refl, ap, sym, ◌∙◌, codes, append-nil, subst, IsSome}
use Rattle.std.specs.Option.{option_map, option_or, option_to_list}
use Rattle.plane.specs.declared.fault.Fault.{Fault}
use Rattle.plane.specs.declared.refusal.Refusal.{Refusal}
use Rattle.plane.specs.declared.refusal.Refusal.TheVariants.{NotAPattern}
use Rattle.text_lines.specs.Bytes.{begins_with}
use Rattle.text_lines.specs.Faults.{fault_at, unless}
use Rattle.text_lines.specs.Lines.{Line, lines_from}
use Rattle.macrocell_reader.specs.Meaning.{Meaning, judged, first_fault, is_node_line, line_fault, node_line_fault, levels_after, body_of, meaning_with}
use Rattle.macrocell_reader.specs.Nodes.{level_of}
use Rattle.macrocell_reader.proofs.NodeLemmas.{node_of-other}
use Rattle.macrocell_reader.specs.Settings.{Said, nothing_said, said_fault, after_lines}

pub first_fault-nil : (levels : List ℕ) → first_fault levels [] ≡ None
unfolding first_fault
first_fault-nil levels = refl

module _ (levels : List ℕ) (line : Line) (rest : List Line) where
  -- a line with a fault of its own
  pub first_fault-said : (refusal : Refusal) → said_fault line.text ≡ Some refusal → first_fault levels (line ∷ rest) ≡ Some (fault_at refusal line.place)
  unfolding first_fault
  first_fault-said refusal found = rw found refl

  module _ (no_fault : said_fault line.text ≡ None) where
    -- a node line with a fault
    pub first_fault-node : (refusal : Refusal) → node_line_fault levels line.text ≡ Some refusal → first_fault levels (line ∷ rest) ≡ Some (fault_at refusal line.place)
    unfolding first_fault
    first_fault-node refusal found = rw (no_fault, found) refl

    -- a line without a fault
    pub first_fault-next : node_line_fault levels line.text ≡ None → first_fault levels (line ∷ rest) ≡ first_fault (levels_after levels line.text) rest
    unfolding first_fault
    first_fault-next none = rw (no_fault, none) refl

module _ (text : List ℕ) where
  pub judged-no_pattern : begins_with (codes "[M2]") text ≡ false → judged text ≡ Err (fault_at NotAPattern 0)
  unfolding judged
  judged-no_pattern other = rw other refl

  module _ (is : begins_with (codes "[M2]") text ≡ true) where
    pub judged-fault : (fault : Fault) → first_fault [] (body_of text) ≡ Some fault → judged text ≡ Err fault
    unfolding judged
    judged-fault fault found = rw (is, found) refl

    pub judged-accepted : first_fault [] (body_of text) ≡ None → judged text ≡ Ok (meaning_with (after_lines nothing_said (body_of text)) (body_of text))
    unfolding judged
    judged-accepted none = rw (is, none) refl

-- a blank line or a comment is not a faulty node line, and adds no level
pub no_node_line : (levels line : List ℕ) → is_node_line line ≡ false → (node_line_fault levels line ≡ None) × (levels ≡ levels_after levels line)
no_node_line levels line none =
    (rw none refl, sym (ap (λ node. levels ++ option_to_list (option_map level_of node)) (node_of-other line none) ∙ append-nil levels))

-- the lines of a source after one was taken, or none
pub body-is : {A : Type 0} (taken : Option A) (seen : A → Line) (more : A → Type 0) (source before after : List ℕ) (at next : ℕ) → before ≡ source → at ≡ 0 → after ≡ before →
    MatchOption taken (next ≡ at) more → MatchOption taken (lines_from before at ≡ []) (λ line. lines_from before at ≡ seen line ∷ lines_from after next) →
    lines_from after next ≡ body_of source
body-is None seen more source before after at next before_is start after_is same none =
    ap (λ s. lines_from s next) after_is ∙ ap (lines_from before) same ∙ none ∙ ap (drop 1) (sym none)
    ∙ ap (λ s. drop 1 (lines_from s at)) before_is ∙ ap (λ k. drop 1 (lines_from source k)) start
body-is (Some line) seen more source before after at next before_is start after_is same found =
    sym (ap (drop 1) found) ∙ ap (λ s. drop 1 (lines_from s at)) before_is ∙ ap (λ k. drop 1 (lines_from source k)) start

-- the same judgement, of the lines that were read
module _ (text : List ℕ) (body : List Line) (is : begins_with (codes "[M2]") text ≡ true) (body_is : body ≡ body_of text) where
  pub judged-fault_of : (fault : Fault) → first_fault [] body ≡ Some fault → judged text ≡ Err fault
  judged-fault_of fault found = judged-fault text is fault (ap (first_fault []) (sym body_is) ∙ found)

  pub judged-accepted_of : (said : Said) → first_fault [] body ≡ None → said ≡ after_lines nothing_said body → judged text ≡ Ok (meaning_with said body)
  judged-accepted_of said none said_is =
      judged-accepted text is (ap (first_fault []) (sym body_is) ∙ none)
      ∙ ap (λ (lines : List Line). Ok (meaning_with (after_lines nothing_said lines) lines)) (sym body_is)
      ∙ ap (λ (s : Said). Ok (meaning_with s body)) (sym said_is)

-- ---- the outcomes of a text

fault_step : (own : Option Refusal) (place : ℕ) (later : Option Fault) (fault : Fault) → (later ≡ Some fault → IsSome fault.place) → option_or (option_map (λ refusal. fault_at refusal place) own) later ≡ Some fault → IsSome fault.place
fault_step None place later fault more found = more found
fault_step (Some refusal) place later fault more found =
    let same : fault_at refusal place ≡ fault = cc in subst (λ (f : Fault). IsSome f.place) same refl

first_fault-placed : (levels : List ℕ) (lines : List Line) (fault : Fault) → first_fault levels lines ≡ Some fault → IsSome fault.place
unfolding first_fault
first_fault-placed levels [] fault found = cc
first_fault-placed levels (line ∷ rest) fault found =
    fault_step (line_fault levels line.text) line.place (first_fault (levels_after levels line.text) rest) fault
    (first_fault-placed (levels_after levels line.text) rest fault) found

refused_step : (found : Option Fault) (meaning : Meaning) (fault : Fault) → unless found meaning ≡ Err fault → found ≡ Some fault
refused_step None meaning fault is = cc
refused_step (Some other) meaning fault is = let same : other ≡ fault = cc in ap Some same

accepted_step : (found : Option Fault) (meaning other : Meaning) → unless found meaning ≡ Ok other → (found ≡ None) × (meaning ≡ other)
accepted_step None meaning other is = (refl, cc)
accepted_step (Some fault) meaning other is = cc

placed_step : (b : Bool) (text : List ℕ) (meaning : Meaning) (fault : Fault) → cond b (unless (first_fault [] (body_of text)) meaning) (Err (fault_at NotAPattern 0)) ≡ Err fault → IsSome fault.place
placed_step true text meaning fault is = first_fault-placed [] (body_of text) fault (refused_step (first_fault [] (body_of text)) meaning fault is)
placed_step false text meaning fault is =
    let same : fault_at NotAPattern 0 ≡ fault = cc in subst (λ (f : Fault). IsSome f.place) same refl

-- a fault of a text has a place
pub judged-placed : (text : List ℕ) (fault : Fault) → judged text ≡ Err fault → IsSome fault.place
unfolding judged
judged-placed text fault is =
    placed_step (begins_with (codes "[M2]") text) text (meaning_with (after_lines nothing_said (body_of text)) (body_of text)) fault is

read_step : (b : Bool) (text : List ℕ) (said other : Meaning) → cond b (unless (first_fault [] (body_of text)) said) (Err (fault_at NotAPattern 0)) ≡ Ok other → (first_fault [] (body_of text) ≡ None) × (said ≡ other)
read_step true text said other is = accepted_step (first_fault [] (body_of text)) said other is
read_step false text said other is = cc

-- an accepted text has no faulty line, and means what its lines say
pub judged-read : (text : List ℕ) (meaning : Meaning) → judged text ≡ Ok meaning →
    (first_fault [] (body_of text) ≡ None) × (meaning_with (after_lines nothing_said (body_of text)) (body_of text) ≡ meaning)
unfolding judged
judged-read text meaning is =
    read_step (begins_with (codes "[M2]") text) text (meaning_with (after_lines nothing_said (body_of text)) (body_of text)) meaning is
