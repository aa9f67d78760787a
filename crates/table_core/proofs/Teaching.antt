-- Whatever word an event finds, there is what its desk knows afterwards.
use Rattle.std.proofs.Common.{◌≡◌, ◌≢◌, ℕ, zero, suc, ◌+◌, ◌-◌, ◌^◌, ◌<◌, ◌⊎◌, List, [], ◌∷◌, ◌++◌, length, sym, ◌∙◌, ap, subst, arith, refl, inl, inr, ⊎_elim}
use Rattle.std.specs.Prelude.{Contains, slice_index_or}
use Rattle.std.specs.List.{AllByRecursion}
use Rattle.std.proofs.lemmas.Bool.{cases_lt}
use Rattle.std.proofs.lemmas.List.Elements.{Contains-append_left, Contains-append_right}
use Rattle.plane.specs.Plane.{Plane}
use Rattle.plane.specs.Square.{IsSame, empty, bits_plane, future}
use Rattle.plane.specs.Block.{IsInside}
use Rattle.plane.specs.Listing.{plane_of}
use Rattle.plane.proofs.Same.{same_refl, same_sym, same_trans, same_of, plane_equal}
use Rattle.table_core.specs.declared.key.Key.{Key}
use Rattle.table_core.specs.declared.knowledge.KnownBlock.{KnownBlock}
use Rattle.table_core.specs.declared.knowledge.KnownResult.{KnownResult}
use Rattle.table_core.specs.declared.knowledge.Knowledge.{Knowledge}
use Rattle.table_core.specs.declared.machine.Event.{Event}
use Rattle.table_core.specs.declared.machine.Event.TheVariants.{Look, Claim, Ask, Tell}
use Rattle.table_core.specs.declared.shape.Kind.{Kind}
use Rattle.table_core.specs.declared.shape.Kind.TheVariants.{Leaf, Pair}
use Rattle.table_core.specs.Layout.{IsSlot, start, slot_bits, result_of, first_part, second_part}
use Rattle.table_core.specs.Blocks.{Words, paired, width, height, cells_of, square_rank}
use Rattle.table_core.specs.Good.{IsGood}
use Rattle.table_core.specs.Events.{index_of}
use Rattle.table_core.specs.Knowledge.{HasSeen, Says, Lists, KnowsBlock, IsTrueOf, IsTrueResult}
use Rattle.table_core.specs.Lawful.{MayAsk, IsLawful, KnowsBoth}
use Rattle.table_core.specs.Learning.{KnowsWhole, Follows, as_leaf, as_pair, as_first_part, as_second_part, with_word, LearnsWord, with_future, LearnsFuture, MeetsWord, MeetsResult, LearnsFrom}
use Rattle.table_core.specs.Laws.{EveryEventTeaches}
use Rattle.table_core.proofs.Ways.{not_head}
use Rattle.table_core.proofs.Blocks.{parts_equal, paired_same, paired_inside, leaf_no_pair, cells_inside}
use Rattle.table_core.proofs.Comparisons.{same_or_other}
use Rattle.table_core.proofs.Lists.{all_append, all_contains, contains_here}
use Rattle.table_core.proofs.Results.{one_level}
use Rattle.table_core.proofs.Knowing.{seen_true, block_true, knows_same, lists_same}
use Rattle.table_core.proofs.Showing.{shows_inside, leaf_shows, result_shows}
use Rattle.table_core.proofs.Consistency.{same_cells, known_rank, known_inside}
use Rattle.table_core.proofs.Entries.{listing}
use Rattle.table_core.proofs.Learned.{learns_true, learns_grows}

-- an entry for a block
abbrev pub entry_of : ℕ → (rank : ℕ) (plane : Plane) → IsInside (width rank) (height rank) plane → KnownBlock
entry_of number rank plane inside = record { number = number; rank = rank; live = (listing plane (width rank) (height rank) inside).0 }

pub entry_same : (number rank : ℕ) (plane : Plane) (inside : IsInside (width rank) (height rank) plane) →
    IsSame (plane_of (entry_of number rank plane inside).live) plane
entry_same number rank plane inside = (listing plane (width rank) (height rank) inside).1

entry_says : (number rank : ℕ) (plane : Plane) (inside : IsInside (width rank) (height rank) plane) →
    Says (entry_of number rank plane inside) rank number plane
entry_says number rank plane inside = record { at_rank = refl; of_number = refl; cells = entry_same number rank plane inside }

-- the first of some entries
pub lists_first : (number rank : ℕ) (plane : Plane) (inside : IsInside (width rank) (height rank) plane) (rest : List KnownBlock) →
    Lists (entry_of number rank plane inside ∷ rest) rank number plane
lists_first number rank plane inside rest = (entry_of number rank plane inside, contains_here (entry_of number rank plane inside) rest, entry_says number rank plane inside)

-- the entry of the block that a number stands for, and the entries of both parts of a word
abbrev pub block_entry : Words → ℕ → ℕ → KnownBlock
block_entry words rank n = entry_of n rank (cells_of words rank n) (cells_inside words rank n)

abbrev pub part_entries : Words → ℕ → ℕ → List KnownBlock
part_entries words rank word = block_entry words rank (first_part word) ∷ block_entry words rank (second_part word) ∷ []

pub lists_more : (xs ys : List KnownBlock) (rank number : ℕ) (plane : Plane) → ((entry : KnownBlock) → Contains xs entry → Contains ys entry) →
    Lists xs rank number plane → Lists ys rank number plane
lists_more xs ys rank number plane more t = (t.0, more t.0 t.1, t.2)

pub slot_or_not : (bits : ℕ) (kind : Kind) (i : ℕ) → IsSlot bits kind i ⊎ (IsSlot bits kind i → ⊥)
slot_or_not bits kind i = ⊎_elim (λ t. inr (λ s. let k = s.from in omega arith))
    (λ t. ⊎_elim (λ u. inl (record { from = t; below = u })) (λ u. inr (λ s. let k = s.below in omega arith)) (cases_lt i (start bits kind + 2 ^ slot_bits bits kind)))
    (cases_lt i (start bits kind))

not_there : (n : ℕ) (x : KnownBlock) (xs : List KnownBlock) → x.number ≢ n → ((entry : KnownBlock) → Contains xs entry → entry.number ≢ n) →
    (entry : KnownBlock) (k : ℕ) → k < length (x ∷ xs) → slice_index_or (x ∷ xs) k entry ≡ entry → entry.number ≢ n
not_there n x xs gone none entry zero less e is = gone (ap (λ (y : KnownBlock). y.number) e ∙ is)
not_there n x xs gone none entry (suc k) less e is = none entry (k, omega arith, e) is

-- whether a number is among the entries
listed : (n : ℕ) (blocks : List KnownBlock) →
    ((entry : KnownBlock) × Contains blocks entry × (entry.number ≡ n)) ⊎ ((entry : KnownBlock) → Contains blocks entry → entry.number ≢ n)
listed n [] = inr (λ entry has e. let k = has.1 in omega arith)
listed n (x ∷ xs) = ⊎_elim (λ e. inl (x, contains_here x xs, e))
    (λ gone. ⊎_elim (λ t. inl (t.0, (suc t.1.0, (let k = t.1.1 in omega arith), t.1.2), t.2)) (λ none. inr (λ entry has e. not_there n x xs gone none entry has.0 has.1 has.2 e)) (listed n xs)) (same_or_other x.number n)

-- a number is known as one block and isn't 0, or is 0, or is not known
data Whether (known : Knowledge) (n : ℕ) : Type 0 where
  as_block : (rank : ℕ) (plane : Plane) → KnowsBlock known rank n plane → n ≢ 0 → Whether known n
  as_zero : n ≡ 0 → Whether known n
  unknown : n ≢ 0 → ((rank : ℕ) (plane : Plane) → KnowsBlock known rank n plane → ⊥) → Whether known n

whether : (known : Knowledge) (n : ℕ) → Whether known n
whether known n = ⊎_elim (λ e. as_zero e)
    (λ some. ⊎_elim (λ t. as_block t.0.rank (plane_of t.0.live) (inr (t.0, t.1, record { at_rank = refl; of_number = t.2; cells = same_refl (plane_of t.0.live) })) some)
    (λ none. unknown some (λ rank plane knows. ⊎_elim (λ u. some u.0) (λ u. none u.0 u.1 u.2.of_number) knows)) (listed n known.blocks))
    (same_or_other n 0)

knows_zero : (known : Knowledge) (rank n : ℕ) → n ≡ 0 → KnowsBlock known rank n empty
knows_zero known rank n e = inl (e, same_refl empty)

cells_paired : (words : Words) (r i : ℕ) → i ≢ 0 →
    cells_of words (suc r) i ≡ paired r (cells_of words r (first_part (words i))) (cells_of words r (second_part (words i)))
cells_paired words r zero some = absurd (some refl)
cells_paired words r (suc i) some = refl

-- entries that follow from a word, with what its index shows among them
record Upwards (key : Key) (known : Knowledge) (index word : ℕ) : Type 0 where
  more : List KnownBlock
  follow : AllByRecursion (Follows key known index word) more
  leaf : IsSlot key.shape.bits Leaf index → Lists more 0 index (bits_plane word)
  pair : (rank : ℕ) (one two : Plane) → IsSlot key.shape.bits Pair index → KnowsBoth known rank word one two →
      Lists more (suc rank) index (paired rank one two)

-- the entries have both parts of a word
record HasParts (blocks : List KnownBlock) (rank word : ℕ) (plane : Plane) : Type 0 where
  one : Plane
  two : Plane
  cells : IsSame plane (paired rank one two)
  first : Lists blocks rank (first_part word) one
  second : Lists blocks rank (second_part word) two

-- entries that follow from a word, with its parts among them where it is known what its index shows
record Downwards (key : Key) (known : Knowledge) (index word : ℕ) : Type 0 where
  more : List KnownBlock
  follow : AllByRecursion (Follows key known index word) more
  parts : (rank : ℕ) (plane : Plane) → index ≢ 0 → KnowsBlock known (suc rank) index plane → HasParts more rank word plane

module _ (key : Key) (words : Words) (known : Knowledge) (good : IsGood key words) (h : IsTrueOf key.shape.bits words known) where
  agree : (rank n : ℕ) (p q : Plane) → KnowsBlock known rank n p → KnowsBlock known rank n q → IsSame p q
  agree = same_cells key.shape.bits words known h

  same_rank : (r s n : ℕ) (p q : Plane) → n ≢ 0 → KnowsBlock known r n p → KnowsBlock known s n q → r ≡ s
  same_rank = known_rank key.shape.bits words known h

  inside_block : (rank n : ℕ) (plane : Plane) → KnowsBlock known rank n plane → IsInside (width rank) (height rank) plane
  inside_block = known_inside key.shape.bits words known h

  module _ (index word : ℕ) (some : word ≢ 0) (there : words index ≡ word) where
    leaf_up : IsSlot key.shape.bits Leaf index → Upwards key known index word
    leaf_up slot =
        let inside : IsInside (width 0) (height 0) (bits_plane word) = subst (λ w. IsInside (width 0) (height 0) (bits_plane w)) there (shows_inside key.shape.bits words 0 index _ (leaf_shows key.shape.bits words index slot (λ z. some (sym there ∙ z)))) in
        record {
          more = entry_of index 0 (bits_plane word) inside ∷ [];
          follow = (as_leaf slot (entry_says index 0 (bits_plane word) inside), tt);
          leaf = λ s. lists_first index 0 (bits_plane word) inside [];
          pair = λ rank one two s both. absurd (leaf_no_pair key.shape.bits index slot s);
        }

    no_parts : IsSlot key.shape.bits Pair index →
        ((rank : ℕ) (one two : Plane) → KnowsBlock known rank (first_part word) one → KnowsBlock known rank (second_part word) two → ⊥) →
        Upwards key known index word
    no_parts slot none = record { more = []; follow = tt; leaf = λ s. absurd (leaf_no_pair key.shape.bits index s slot); pair = λ rank one two s both. absurd (none rank one two both.first both.second) }

    with_parts : IsSlot key.shape.bits Pair index → (rank : ℕ) (one two : Plane) → KnowsBlock known rank (first_part word) one →
        KnowsBlock known rank (second_part word) two →
        ((other : ℕ) (p q : Plane) → KnowsBlock known other (first_part word) p → KnowsBlock known other (second_part word) q → other ≡ rank) → Upwards key known index word
    with_parts slot rank one two a b only =
        let inside : IsInside (width (suc rank)) (height (suc rank)) (paired rank one two) = paired_inside rank one two (inside_block rank (first_part word) one a) (inside_block rank (second_part word) two b) in
        record {
          more = entry_of index (suc rank) (paired rank one two) inside ∷ [];
          follow = (as_pair rank one two slot (record { first = a; second = b }) (entry_says index (suc rank) (paired rank one two) inside), tt);
          leaf = λ s. absurd (leaf_no_pair key.shape.bits index s slot);
          pair = λ other p q s both.
              let c = both.first in let d = both.second in
              let e : other ≡ rank = only other p q c d in
              let same_p = agree rank (first_part word) one p a (subst (λ r. KnowsBlock known r (first_part word) p) e c) in
              let same_q = agree rank (second_part word) two q b (subst (λ r. KnowsBlock known r (second_part word) q) e d) in
              subst (λ r. Lists (entry_of index (suc rank) (paired rank one two) inside ∷ []) (suc r) index (paired r p q)) (sym e)
              (lists_same (entry_of index (suc rank) (paired rank one two) inside ∷ []) (suc rank) index (paired rank one two) (paired rank p q) (paired_same rank one two p q same_p same_q) (lists_first index (suc rank) (paired rank one two) inside []));
        }

    pair_up : IsSlot key.shape.bits Pair index → Whether known (first_part word) → Whether known (second_part word) → Upwards key known index word
    pair_up slot (unknown other gone) b = no_parts slot (λ rank one two c d. gone rank one c)
    pair_up slot (as_zero z) (as_zero y) = absurd (some (parts_equal word 0 z y))
    pair_up slot (as_zero z) (unknown other gone) = no_parts slot (λ rank one two c d. gone rank two d)
    pair_up slot (as_block r p knows other) (unknown others gone) = no_parts slot (λ rank one two c d. gone rank two d)
    pair_up slot (as_zero z) (as_block s q knows other) = with_parts slot s empty q (knows_zero known s (first_part word) z) knows (λ rank one two c d. same_rank rank s (second_part word) two q other d knows)
    pair_up slot (as_block r p knows other) (as_zero z) = with_parts slot r p empty knows (knows_zero known r (second_part word) z) (λ rank one two c d. same_rank rank r (first_part word) one p other c knows)
    pair_up slot (as_block r p knows other) (as_block s q also others) = ⊎_elim
        (λ e. with_parts slot r p q knows (subst (λ t. KnowsBlock known t (second_part word) q) (sym e) also) (λ rank one two c d. same_rank rank r (first_part word) one p other c knows))
        (λ n. no_parts slot (λ rank one two c d. n (sym (same_rank rank r (first_part word) one p other c knows) ∙ same_rank rank s (second_part word) two q others d also)))
        (same_or_other r s)

    upwards : Upwards key known index word
    upwards = ⊎_elim leaf_up
        (λ gone. ⊎_elim (λ slot. pair_up slot (whether known (first_part word)) (whether known (second_part word)))
        (λ none. record { more = []; follow = tt; leaf = λ s. absurd (gone s); pair = λ rank one two s both. absurd (none s) })
        (slot_or_not key.shape.bits Pair index)) (slot_or_not key.shape.bits Leaf index)

    nothing_down : ((rank : ℕ) (plane : Plane) → index ≢ 0 → KnowsBlock known (suc rank) index plane → ⊥) → Downwards key known index word
    nothing_down none = record { more = []; follow = tt; parts = λ rank plane other knows. absurd (none rank plane other knows) }

    parts_down : (q : ℕ) (plane : Plane) → KnowsBlock known q index plane → index ≢ 0 → Downwards key known index word
    parts_down zero plane knows other = nothing_down (λ rank p o k. let e : suc rank ≡ zero = same_rank (suc rank) zero index p plane other k knows in omega arith)
    parts_down (suc r) plane knows other =
        let whole : IsSame plane (paired r (cells_of words r (first_part word)) (cells_of words r (second_part word))) =
        same_trans (same_sym (block_true key.shape.bits words known (suc r) index plane h knows).cells)
        (same_of _ _ (cells_paired words r index other ∙ ap (λ w. paired r (cells_of words r (first_part w)) (cells_of words r (second_part w))) there)) in
        let known_whole : KnowsWhole known r index (cells_of words r (first_part word)) (cells_of words r (second_part word)) = record {
          some = other;
          whole = knows_same known (suc r) index plane (paired r (cells_of words r (first_part word)) (cells_of words r (second_part word))) whole knows;
          first_inside = cells_inside words r (first_part word);
          second_inside = cells_inside words r (second_part word);
        } in
        let says = λ (n : ℕ). entry_says n r (cells_of words r n) (cells_inside words r n) in
        let has : HasParts (part_entries words r word) r word plane = record {
          one = cells_of words r (first_part word);
          two = cells_of words r (second_part word);
          cells = whole;
          first = lists_first (first_part word) r (cells_of words r (first_part word)) (cells_inside words r (first_part word)) (block_entry words r (second_part word) ∷ []);
          second = lists_more (block_entry words r (second_part word) ∷ []) (part_entries words r word) r (second_part word) (cells_of words r (second_part word))
              (λ entry t. Contains-append_right (block_entry words r (first_part word) ∷ []) (block_entry words r (second_part word) ∷ []) entry t)
              (lists_first (second_part word) r (cells_of words r (second_part word)) (cells_inside words r (second_part word)) []);
        } in
        record {
          more = part_entries words r word;
          follow = (
            as_first_part r (cells_of words r (first_part word)) (cells_of words r (second_part word)) known_whole (says (first_part word)),
            (as_second_part r (cells_of words r (first_part word)) (cells_of words r (second_part word)) known_whole (says (second_part word)), tt),
          );
          parts = λ rank p o k.
              let e : suc rank ≡ suc r = same_rank (suc rank) (suc r) index p plane other k knows in
              let same : r ≡ rank = omega arith in
              let alike = agree (suc r) index p plane (subst (λ s. KnowsBlock known (suc s) index p) (sym same) k) knows in
              subst (λ s. HasParts (part_entries words r word) s word p) same
              (record { one = has.one; two = has.two; cells = same_trans alike has.cells; first = has.first; second = has.second });
        }

    down_of : Whether known index → Downwards key known index word
    down_of (as_block rank plane knows other) = parts_down rank plane knows other
    down_of (as_zero e) = nothing_down (λ rank p o k. o e)
    down_of (unknown other gone) = nothing_down (λ rank p o k. gone (suc rank) p k)

    -- what a nonzero word teaches
    word_learned : (after : Knowledge) × LearnsWord key known index word after
    word_learned =
        let up : Upwards key known index word = upwards in
        let down : Downwards key known index word = down_of (whether known index) in
        let later = with_word known index word (up.more ++ down.more) in
        let left = λ (rank number : ℕ) (plane : Plane) (t : Lists up.more rank number plane). lists_more up.more (known.blocks ++ (up.more ++ down.more)) rank number plane
        (λ entry c. Contains-append_right known.blocks (up.more ++ down.more) entry (Contains-append_left up.more down.more entry c)) t in
        let right = λ (rank number : ℕ) (plane : Plane) (t : Lists down.more rank number plane). lists_more down.more (known.blocks ++ (up.more ++ down.more)) rank number plane
        (λ entry c. Contains-append_right known.blocks (up.more ++ down.more) entry (Contains-append_right up.more down.more entry c)) t in (
          with_word known index word (up.more ++ down.more),
          record {
            more = up.more ++ down.more;
            is = refl;
            follow = all_append (Follows key known index word) up.more down.more up.follow down.follow;
            leaf = λ s. inr (left 0 index (bits_plane word) (up.leaf s));
            pair = λ rank one two s both. inr (left (suc rank) index (paired rank one two) (up.pair rank one two s both));
            parts = λ rank plane other knows. let p : HasParts down.more rank word plane = down.parts rank plane other knows in record {
              one = p.one;
              two = p.two;
              cells = p.cells;
              both = record { first = inr (right rank (first_part word) p.one p.first); second = inr (right rank (second_part word) p.two p.second) };
            };
          },
        )

    -- what a nonzero result teaches
    future_learned : (count : ℕ) → MayAsk key.shape.bits known index → (after : Knowledge) × LearnsFuture key known count index word after
    future_learned count of =
        let t = good.results of.square of.slot (λ z. some (sym there ∙ ap words of.beside ∙ z)) in
        let is : word ≡ 2 ^ 32 + t.0 = sym there ∙ ap words of.beside ∙ t.1 in
        let square = block_true key.shape.bits words known (square_rank of.level) of.square of.plane h of.shown in
        let shown = result_shows key words of.square of.level t.0 of.plane good of.slot of.above square t.1 in
        let inside = shows_inside key.shape.bits words (square_rank (of.level - 1)) t.0 (future key.rule key.exponent of.level of.plane) shown in
        let cells = listing (future key.rule key.exponent of.level of.plane) (width (square_rank (of.level - 1))) (height (square_rank (of.level - 1))) inside in (
          with_future known count (record { level = of.level; square = of.square; future = t.0 }) cells.0,
          record {
            result = record { level = of.level; square = of.square; future = t.0 };
            live = cells.0;
            is = refl;
            beside = of.beside;
            told = is;
            shows = λ also.
                let e : also.square ≡ of.square = let k : also.square + 2 ^ key.shape.bits ≡ of.square + 2 ^ key.shape.bits = sym also.beside ∙ of.beside in omega arith in
                let knows : KnowsBlock known (square_rank also.level) of.square also.plane = subst (λ n. KnowsBlock known (square_rank also.level) n also.plane) e also.shown in
                let levels : also.level ≡ of.level = one_level also.level of.level also.above of.above (same_rank (square_rank also.level) (square_rank of.level) of.square also.plane of.plane (not_head key.shape.bits Pair of.square of.slot) knows of.shown) in
                let planes : also.plane ≡ of.plane = plane_equal also.plane of.plane (agree (square_rank of.level) of.square also.plane of.plane (subst (λ n. KnowsBlock known (square_rank n) of.square also.plane) levels knows) of.shown) in
                (levels, same_trans cells.1 (same_of _ _ (λ i. future key.rule key.exponent (sym levels i) (sym planes i))));
          },
        )

  seen_agrees : (index word : ℕ) → words index ≡ word → (seen : ℕ) → HasSeen known index seen → (word ≡ seen) × (seen ≢ 0)
  seen_agrees index word there seen has = let t = seen_true key.shape.bits words known index seen h has in (sym there ∙ t.0, t.1)

  result_agrees : (index word : ℕ) → words index ≡ word → (result : KnownResult) → Contains known.results result →
      index ≡ result_of key.shape.bits result.square → word ≡ 2 ^ 32 + result.future
  result_agrees index word there result has e = let t = all_contains (IsTrueResult key.shape.bits words) known.results result h.results has in sym there ∙ ap words e ∙ t.told

  met_word : (index word : ℕ) → words index ≡ word → (after : Knowledge) × MeetsWord key known index word after
  met_word index word there = ⊎_elim
      (λ z. (known, record { none = λ e. refl; some = λ some. absurd (some z); agrees = seen_agrees index word there }))
      (λ some. let l = word_learned index word some there in (l.0, record { none = λ z. absurd (some z); some = λ again. l.1; agrees = seen_agrees index word there }))
      (same_or_other word 0)

  met_result : (count index word : ℕ) → words index ≡ word → MayAsk key.shape.bits known index →
      (after : Knowledge) × MeetsResult key known count index word after
  met_result count index word there of = ⊎_elim
      (λ z. (known, record { none = λ e. refl; some = λ some. absurd (some z); agrees = result_agrees index word there }))
      (λ some. let l = future_learned index word some there count of in (l.0, record { none = λ z. absurd (some z); some = λ again. l.1; agrees = result_agrees index word there }))
      (same_or_other word 0)

  -- there is what a desk knows after an event
  learns_some : (event : Event) (word : ℕ) → IsLawful key known event → words (index_of event) ≡ word →
      (after : Knowledge) × LearnsFrom key event known word after
  learns_some (Look desk index) word lawful there = met_word index word there
  learns_some (Claim desk index claimed) word lawful there = met_word index word there
  learns_some (Ask desk index) word lawful there = met_result 1 index word there lawful
  learns_some (Tell desk index number) word lawful there = met_result 0 index word there lawful.of

pub every_event_teaches : EveryEventTeaches
every_event_teaches key words known event word good h lawful there = record {
  some = learns_some key words known good h event word lawful there;
  true_of = λ after learns. learns_true key words known event word after good h lawful there learns;
  grows = λ after learns. learns_grows key known event word after learns;
}
