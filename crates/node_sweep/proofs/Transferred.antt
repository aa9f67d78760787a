-- What is copied out of words at rest.
use Rattle.std.proofs.Common.{◌≡◌, ◌⊎◌, ℕ, List, refl, sym, subst, inl, inr, ⊎_elim}
use Rattle.std.specs.Prelude.{Option, None, Some, Result, Ok, Err, IfErr, IfOk, IsOkUnless}
use Rattle.plane.specs.declared.refusal.Refusal.{Refusal}
use Rattle.plane.specs.declared.refusal.Refusal.TheVariants.{NodesFull, NoMemory}
use Rattle.squares.specs.Book.{IsKnown}
use Rattle.squares.specs.declared.sq.Sq.{Sq}
use Rattle.table_core.specs.declared.key.Key.{Key}
use Rattle.table_core.specs.Blocks.{square_rank}
use Rattle.node_table.specs.declared.still.Still.{Still}
use Rattle.node_table.specs.Stills.{HasWords, book_in, key_of, items_of}
use Rattle.node_sweep.specs.Table.{IsBlockIn, Table, table_by}
use Rattle.node_sweep.specs.Copies.{HasNoRoomForWanted, IsCopyOf, has_note}
use Rattle.node_sweep.specs.CopiedStills.{CopiesStill, HasNoRoomFor, HasNoRoomToKeep, IsResized, IsRootCopy, IsSwept, ReachesFewWords, is_reached_in, table_of}
use Rattle.node_sweep.specs.Plans.{IsFilled, IsFilledAlone}
use Rattle.node_sweep.specs.Reaching.{IsAny, IsSomePlan, IsWanted, Reaches}
use Rattle.node_sweep.specs.Transfers.{HasNoRoomLeft, old_table, wants}
use Rattle.node_sweep.specs.WantedCopies.{CopiesWanted}
use Rattle.node_sweep.specs.declared.transfer.Transfer.{Transfer}
use Rattle.std.proofs.lemmas.Result.{IfOk-weaker}
use Rattle.node_sweep.proofs.Carried.{copy_in, holds_wanted, is_swept, root_copy}
use Rattle.node_sweep.proofs.Few.{room_for_few}
use Rattle.node_sweep.proofs.Squares.{known_shows}

-- what is refused for one reason is refused for another that follows from it
pub refused_as : {T : Type 0} (P Q : Type 0) (r : Result T Refusal) → (P → Q) → IfErr r (λ refusal. (refusal ≡ NoMemory) ⊎ ((refusal ≡ NodesFull) × P)) →
    IfErr r (λ refusal. (refusal ≡ NoMemory) ⊎ ((refusal ≡ NodesFull) × Q))
refused_as P Q (Ok x) f h = tt
refused_as P Q (Err e) f h = ⊎_elim (λ memory. inl memory) (λ full. inr (full.0, f full.1)) h

-- and only for want of memory where the other reason is out
pub only_memory : {T : Type 0} (P : Type 0) (r : Result T Refusal) → (P → ⊥) → IfErr r (λ refusal. (refusal ≡ NoMemory) ⊎ ((refusal ≡ NodesFull) × P)) → IsOkUnless r NoMemory
only_memory P (Ok x) none h = tt
only_memory P (Err e) none h = ⊎_elim (λ memory. memory) (λ full. absurd (none full.1)) h

-- a known root is a block in the words of the table
pub block_as : (still : Still) (root : Sq) (key : Key) (words : List ℕ) (number : ℕ) → IsKnown (book_in still) root.level root → key ≡ key_of still → words ≡ items_of still → number ≡ root.num.0 →
    IsBlockIn (table_by key words) (square_rank root.level) number
block_as still root key words number known same_key same_words same =
    subst (λ (k : Key). IsBlockIn (table_by k words) (square_rank root.level) number) (sym same_key)
    (subst (λ (ws : List ℕ). IsBlockIn (table_by (key_of still) ws) (square_rank root.level) number) (sym same_words)
    (subst (IsBlockIn (table_of still) (square_rank root.level)) (sym same) (known_shows still root known).stands))

-- by a plan any number is wanted
room_for_any : {Plan : Type 0} (plan : Option Plan) (table : Table) (to : Key) (root : ℕ) → IsSomePlan plan → HasNoRoomForWanted table to (IsWanted plan table root) → HasNoRoomForWanted table to IsAny
room_for_any None table to root never none = absurd never
room_for_any (Some plan) table to root _ none = none

-- out of the words of a closed table, what is copied with a root
pub record IsTransferOf (still : Still) (root : ℕ) (transfer : Transfer) : Type 0 where
  pub key : transfer.old.key.now ≡ key_of still
  pub words : transfer.old.words.now ≡ items_of still
  pub same_root : transfer.root ≡ root

module _ (still : Still) (root : ℕ) (transfer : Transfer) (is : IsTransferOf still root transfer) where
  -- what holds of the words of the transfer holds of the words at rest
  at_rest : (P : Key → List ℕ → ℕ → Type 0) → P transfer.old.key.now transfer.old.words.now transfer.root → P (key_of still) (items_of still) root
  at_rest P p =
      subst (P (key_of still) (items_of still)) is.same_root
      (subst (λ ws. P (key_of still) ws transfer.root) is.words
      (subst (λ k. P k transfer.old.words.now transfer.root) is.key p))

-- what such a copy is for its caller
module _ (still : Still) (root : Sq) (pairs : ℕ) (transfer : Transfer) (known : IsKnown (book_in still) root.level root) (resized : IsResized (key_of still) transfer.to pairs)
    (is : IsTransferOf still root.num.0 transfer) where
  has_words : (now : Still) (copy : Sq) → IsFilled transfer root.level now copy → HasWords now transfer.to (items_of now)
  has_words now copy filled = record { same_key = filled.same_key; same_words = refl }

  copied_root : (now : Still) (copy : Sq) → IsFilled transfer root.level now copy → IsRootCopy still root now copy
  copied_root now copy filled = root_copy still now root copy known filled.same_level (copy_in still transfer.to (items_of now) now (has_words now copy filled) root.num.0 copy.num.0
      (at_rest still root.num.0 transfer is (λ key words number. IsCopyOf (table_by key words) (table_by transfer.to (items_of now)) number copy.num.0) filled.made))

  copies_still : (now : Still) (copy : Sq) → IsFilled transfer root.level now copy → CopiesStill still root pairs now copy
  copies_still now copy filled =
      let some = filled.all in record {
        notes = some.notes;
        has_root = subst (has_note some.notes) is.same_root some.has_root;
        all = holds_wanted still transfer.to (items_of now) now (has_words now copy filled) (has_note some.notes) pairs resized
            (at_rest still root.num.0 transfer is (λ key words number. CopiesWanted (table_by key words) transfer.to (has_note some.notes) (items_of now)) some.all);
        copied_root = copied_root now copy filled;
      }

  -- by a plan any number may be copied
  no_room_to_keep : IsSomePlan transfer.plan → HasNoRoomLeft transfer → HasNoRoomToKeep still pairs
  no_room_to_keep planned none = record {
    to = transfer.to;
    resized = resized;
    full = at_rest still root.num.0 transfer is (λ key words number. HasNoRoomForWanted (table_by key words) transfer.to IsAny) (room_for_any transfer.plan (old_table transfer) transfer.to transfer.root planned none);
  }

  -- without a plan only what the root reaches
  module _ (unplanned : transfer.plan ≡ None) where
    reached : (P : (ℕ → Type 0) → Type 0) → P (wants transfer) → P (Reaches (old_table transfer) transfer.root)
    reached P p = subst (λ plan. P (IsWanted plan (old_table transfer) transfer.root)) unplanned p

    swept : (now : Still) (copy : Sq) → IsFilled transfer root.level now copy → IsFilledAlone transfer now → IsSwept still root pairs now copy
    swept now copy filled alone =
        let all = holds_wanted still transfer.to (items_of now) now (has_words now copy filled) (is_reached_in still root) pairs resized
        (at_rest still root.num.0 transfer is (λ key words number. CopiesWanted (table_by key words) transfer.to (Reaches (table_by key words) number) (items_of now))
        (reached (λ wanted. CopiesWanted (old_table transfer) transfer.to wanted (items_of now)) alone)) in
        is_swept still now root copy pairs all (copied_root now copy filled)

    no_room_to_sweep : HasNoRoomLeft transfer → HasNoRoomFor still root pairs
    no_room_to_sweep none = record {
      to = transfer.to;
      resized = resized;
      full = at_rest still root.num.0 transfer is (λ key words number. HasNoRoomForWanted (table_by key words) transfer.to (Reaches (table_by key words) number))
          (reached (HasNoRoomForWanted (old_table transfer) transfer.to) none);
    }

-- what was made is that, or was refused for that
pub copied_or_full : (still : Still) (root : Sq) (pairs : ℕ) {transfer : Transfer} (made : Result (Still × Sq) Refusal) → IfOk made (λ copied. IsFilled transfer root.level copied.0 copied.1) →
    IfErr made (λ refusal. (refusal ≡ NoMemory) ⊎ ((refusal ≡ NodesFull) × HasNoRoomLeft transfer)) → IsKnown (book_in still) root.level root → IsResized (key_of still) transfer.to pairs →
    IsTransferOf still root.num.0 transfer → IsSomePlan transfer.plan →
    IfOk made (λ copied. CopiesStill still root pairs copied.0 copied.1) × IfErr made (λ refusal. (refusal ≡ NoMemory) ⊎ ((refusal ≡ NodesFull) × HasNoRoomToKeep still pairs))
copied_or_full still root pairs {transfer = transfer} made filled refused known resized is planned = (
  IfOk-weaker made _ _ (λ copied. copies_still still root pairs transfer known resized is copied.0 copied.1) filled,
  refused_as (HasNoRoomLeft transfer) (HasNoRoomToKeep still pairs) made (no_room_to_keep still root pairs transfer known resized is planned) refused,
)

pub swept_alone : (still : Still) (root : Sq) (pairs : ℕ) (transfer : Transfer) (made : Result (Still × Sq) Refusal) → IfOk made (λ copied. IsFilled transfer root.level copied.0 copied.1) →
    IfOk made (λ copied. IsFilledAlone transfer copied.0) → IsKnown (book_in still) root.level root → IsResized (key_of still) transfer.to pairs → IsTransferOf still root.num.0 transfer →
    transfer.plan ≡ None → IfOk made (λ copied. IsSwept still root pairs copied.0 copied.1)
swept_alone still root pairs transfer (Ok copied) filled alone known resized is unplanned = swept still root pairs transfer known resized is unplanned copied.0 copied.1 filled alone
swept_alone still root pairs transfer (Err e) filled alone known resized is unplanned = tt

pub swept_or_full : (still : Still) (root : Sq) (pairs : ℕ) {transfer : Transfer} (made : Result (Still × Sq) Refusal) → IfOk made (λ copied. IsFilled transfer root.level copied.0 copied.1) →
    IfOk made (λ copied. IsFilledAlone transfer copied.0) → IfErr made (λ refusal. (refusal ≡ NoMemory) ⊎ ((refusal ≡ NodesFull) × HasNoRoomLeft transfer)) → IsKnown (book_in still) root.level root →
    IsResized (key_of still) transfer.to pairs → IsTransferOf still root.num.0 transfer → transfer.plan ≡ None →
    IfOk made (λ copied. IsSwept still root pairs copied.0 copied.1) × IfErr made (λ refusal. (refusal ≡ NoMemory) ⊎ ((refusal ≡ NodesFull) × HasNoRoomFor still root pairs))
swept_or_full still root pairs {transfer = transfer} made filled alone refused known resized is unplanned = (
  swept_alone still root pairs transfer made filled alone known resized is unplanned,
  refused_as (HasNoRoomLeft transfer) (HasNoRoomFor still root pairs) made (no_room_to_sweep still root pairs transfer known resized is unplanned) refused,
)

-- what a root that reaches few words needs always has room
pub room_to_sweep : (still : Still) (root : Sq) (pairs : ℕ) → ReachesFewWords still root → HasNoRoomFor still root pairs → ⊥
room_to_sweep still root pairs few h = room_for_few (key_of still) h.to (items_of still) root.num.0 still.good.good h.full few.leaves few.pairs
