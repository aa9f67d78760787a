-- The lines before the body, one after the other.
use Rattle.std.proofs.Common.{◌≡◌, ℕ, ◌+◌, Bool, true, false, cond, List, [], ◌∷◌, take, drop, Result, Ok, Err, IfOk, IfErr, refl, ap, sym, ◌∙◌, one-add}
use Rattle.std.specs.List.{prefix_len}
use Rattle.plane.specs.declared.fault.Fault.{Fault}
use Rattle.plane.specs.declared.refusal.Refusal.TheVariants.{NotAPattern}
use Rattle.text_lines.specs.Faults.{fault_at, at_place, ◌>>=◌}
use Rattle.text_lines.specs.Lines.{Line, lines_from}
use Rattle.rle_reader.specs.Preamble.{PreambleMeaning, may_stand, before_header, from_header, after_lines, with_header, preamble_of}
use Rattle.text_lines.specs.Comments.{comments_of}
use Rattle.rle_reader.specs.Settings.{nothing_said, after_line}
use Rattle.rle_reader.specs.Header.{header_rule}
use Rattle.rle_reader.specs.Seen.{preamble_result}
use Rattle.rle_reader.specs.declared.preamble.Preamble.{Preamble}
use Rattle.rle_reader.specs.declared.settings.Settings.{Settings}
use Rattle.std.specs.Option.{option_copied}

before_step : (b : Bool) (line : Line) (rest : List Line) (n : ℕ) → b ≡ true → (take (cond b (1 + n) 0) (line ∷ rest) ≡ line ∷ take n rest) × (drop (cond b (1 + n) 0) (line ∷ rest) ≡ drop n rest)
before_step true line rest n stands = (rw one-add refl, rw one-add refl)
before_step false line rest n stands = cc

before_stop : (b : Bool) (line : Line) (rest : List Line) (n : ℕ) → b ≡ false → (take (cond b (1 + n) 0) (line ∷ rest) ≡ []) × (drop (cond b (1 + n) 0) (line ∷ rest) ≡ line ∷ rest)
before_stop true line rest n stops = cc
before_stop false line rest n stops = (refl, refl)

-- the preamble, where these settings hold and these lines are left
unfoldable pub preamble_on : ℕ → List (List ℕ) → Settings → List Line → Result PreambleMeaning Fault
preamble_on end comments settings left = do
  next ← after_lines settings (before_header left)
  with_header end comments next (from_header left)

pub preamble_on-start : (end : ℕ) (all : List Line) → preamble_on end (comments_of (before_header all)) nothing_said all ≡ preamble_of end all
unfolding preamble_on preamble_of
preamble_on-start end all = refl

module _ (end : ℕ) (comments : List (List ℕ)) (settings : Settings) where
  pub preamble_on-nil : preamble_on end comments settings [] ≡ Err (fault_at NotAPattern end)
  unfolding preamble_on after_lines with_header
  preamble_on-nil = refl

  module _ (line : Line) (rest : List Line) where
    preamble_on-stands : may_stand line ≡ true → preamble_on end comments settings (line ∷ rest) ≡ (after_lines settings (line ∷ before_header rest) >>= λ next. with_header end comments next (from_header rest))
    unfolding preamble_on
    preamble_on-stands stands =
        let h = before_step (may_stand line) line rest (prefix_len may_stand rest) stands in
        ap (λ before. after_lines settings before >>= λ next. with_header end comments next (from_header (line ∷ rest))) h.0
        ∙ ap (λ from. after_lines settings (line ∷ before_header rest) >>= λ next. with_header end comments next from) h.1

    bound : (found : Result Settings Fault) → Result PreambleMeaning Fault
    bound found = (found >>= λ next. after_lines next (before_header rest)) >>= λ next. with_header end comments next (from_header rest)

    after_lines-bound : (after_lines settings (line ∷ before_header rest) >>= λ next. with_header end comments next (from_header rest)) ≡ bound (at_place line.place (after_line settings line.text))
    unfolding bound after_lines
    after_lines-bound = refl

    bound-ok : (next : Settings) → bound (Ok next) ≡ preamble_on end comments next rest
    unfolding bound preamble_on
    bound-ok next = refl

    bound-err : (fault : Fault) → bound (Err fault) ≡ Err fault
    unfolding bound
    bound-err fault = refl

    pub preamble_on-line : (next : Settings) → may_stand line ≡ true → Ok next ≡ at_place line.place (after_line settings line.text) → preamble_on end comments next rest ≡ preamble_on end comments settings (line ∷ rest)
    preamble_on-line next stands is =
        sym (bound-ok next) ∙ ap bound is ∙ sym after_lines-bound ∙ sym (preamble_on-stands stands)

    pub preamble_on-fault : (fault : Fault) → may_stand line ≡ true → Err fault ≡ at_place line.place (after_line settings line.text) → Err fault ≡ preamble_on end comments settings (line ∷ rest)
    preamble_on-fault fault stands is =
        sym (bound-err fault) ∙ ap bound is ∙ sym after_lines-bound ∙ sym (preamble_on-stands stands)

    pub preamble_on-header : may_stand line ≡ false → preamble_on end comments settings (line ∷ rest) ≡ with_header end comments settings (line ∷ rest)
    unfolding preamble_on after_lines
    preamble_on-header stops =
        let h = before_stop (may_stand line) line rest (prefix_len may_stand rest) stops in
        ap (λ before. after_lines settings before >>= λ next. with_header end comments next (from_header (line ∷ rest))) h.0
        ∙ ap (λ from. with_header end comments settings from) h.1

-- what was read at the header is the preamble
pub seen_with_header : (source : List ℕ) (end : ℕ) (settings : Settings) (line : Line) (body : ℕ) (result : Result Preamble Fault) →
    IfOk result (λ read. (read.settings ≡ settings) × (read.header ≡ line.place) × (read.body ≡ body) × (at_place line.place (header_rule line.text) ≡ Ok (option_copied read.rule))) →
    IfErr result (λ fault. at_place line.place (header_rule line.text) ≡ Err fault) →
    preamble_result source result ≡ with_header end (comments_of (before_header (lines_from source 0))) settings (line ∷ lines_from source body)
unfolding with_header
seen_with_header source end settings line body (Ok read) ok err =
    rw ok.3 (ap (λ (s : Settings). Ok (preamble_at s read.header read.body)) ok.0
    ∙ ap (λ (h : ℕ). Ok (preamble_at settings h read.body)) ok.1
    ∙ ap (λ (b : ℕ). Ok (preamble_at settings line.place b)) ok.2)
  where
    preamble_at : Settings → ℕ → ℕ → PreambleMeaning
    preamble_at s h b = record { settings = s; comments = comments_of (before_header (lines_from source 0)); header = h; rule = option_copied read.rule; body = lines_from source b }
seen_with_header source end settings line body (Err fault) ok err = rw err refl
