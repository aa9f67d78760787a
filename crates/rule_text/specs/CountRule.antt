use Rattle.std.specs.Prelude.{◌≡◌, ℕ, ◌≤◌, ◌==◌, Bool, false, if◌then◌else◌, List, [], ◌∷◌, filter, map, All, slice_index_or}
use Rattle.std.specs.List.{list_any}
use Rattle.rule_text.specs.Neighbourhood.{neighbour_count}
use Rattle.rule_text.specs.declared.neighbourhood.Neighbourhood.{Neighbourhood}
use Rattle.rule_text.specs.declared.neighbourhood.Neighbourhood.TheVariants.{Moore}

-- the counts that a digit can name
unfoldable pub counts : List ℕ
counts = 0 ∷ 1 ∷ 2 ∷ 3 ∷ 4 ∷ 5 ∷ 6 ∷ 7 ∷ 8 ∷ []

-- whether the number is one of the digits
abbrev pub has : List ℕ → ℕ → Bool
has digits count = list_any (λ digit. digit == count) digits

-- the digits once each, rising
unfoldable pub rising : List ℕ → List ℕ
rising digits = filter (has digits) counts

-- a neighbourhood, the counts that make a dead cell live, and those that keep a live cell alive
pub record CountRule : Type 0 where
  pub neighbourhood : Neighbourhood
  pub birth : List ℕ
  pub survival : List ℕ

-- the rule of this neighbourhood and these digits
abbrev pub count_rule : Neighbourhood → List ℕ → List ℕ → CountRule
count_rule neighbourhood birth survival = record {
  neighbourhood = neighbourhood;
  birth = birth;
  survival = survival;
}

-- each digit is the count of some neighbours
abbrev pub Fit : Neighbourhood → List ℕ → Type 0
Fit neighbourhood digits = All (λ digit. digit ≤ neighbour_count neighbourhood) digits

-- the digits fit, stand once each and rise, and no cell is born of no neighbours
pub record IsRule (rule : CountRule) : Type 0 where
  pub birth_fits : Fit rule.neighbourhood rule.birth
  pub survival_fits : Fit rule.neighbourhood rule.survival
  pub birth_rises : rule.birth ≡ rising rule.birth
  pub survival_rises : rule.survival ≡ rising rule.survival
  pub no_birth_on_zero : has rule.birth 0 ≡ false

-- the rule by which no cell lives
abbrev pub dead : CountRule
dead = record { neighbourhood = Moore; birth = []; survival = [] }

-- whether a cell that is alive or dead, with so many live neighbours, lives in the next generation
abbrev pub lives : CountRule → Bool → ℕ → Bool
lives rule alive count = if alive then has rule.survival count else has rule.birth count

-- the digits that are marked in a list of marks
unfoldable pub digits_listed : List Bool → List ℕ
digits_listed listed = filter (λ digit. slice_index_or listed digit false) counts

-- a mark for each count: whether it is one of the digits
unfoldable pub listed_digits : List ℕ → List Bool
listed_digits digits = map (has digits) counts
