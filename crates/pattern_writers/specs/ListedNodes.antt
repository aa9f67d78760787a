-- The list of nodes while it is made, by the squares of a book.
use Rattle.std.specs.Prelude.{◌≡◌, ℕ, ◌-◌, ◌==◌, nat_eq, Bool, true, if◌then◌else◌, List, [], ◌∷◌, ◌++◌, map, Option, None, Some, IsTrue}
use Rattle.std.specs.Cmp.Lexicographic.{pointwise}
use Rattle.std.specs.List.{flat_map}
use Rattle.plane.specs.Centred.{IsSmallestLevel}
use Rattle.plane.specs.Plane.{Plane}
use Rattle.squares.specs.Book.{Book, nth}
use Rattle.squares.specs.declared.sq.Sq.{Sq}
use Rattle.squares.specs.Noted.{value_of}
use Rattle.pattern_writers.specs.McText.{from_corner, node_lines, square_text}
use Rattle.pattern_writers.specs.NodeLines.{node_line, node_text}
use Rattle.pattern_writers.specs.Subsquares.{Square, is_listed, listed_in, number_in, squares_in, with_new}
use Rattle.pattern_writers.specs.declared.mc_text.listing.NodeList.{NodeList}
use Rattle.pattern_writers.specs.declared.mc_text.node.ListedNode.{ListedNode}
use Rattle.pattern_writers.specs.declared.mc_text.node.ListedNode.TheVariants.{Inner}

-- a square of a book, by its cells
abbrev pub square_of : Book → Sq → Square
square_of book sq = record { level = sq.level; plane = book.cells sq }

-- the squares that a square of a book adds to those that are listed
abbrev pub listed_with : Book → List Square → Sq → List Square
listed_with book listed sq = with_new listed (squares_in (sq.level - 3) (book.cells sq))

-- the number of a square among these, if it is one of them
abbrev pub found_in : List Square → Square → Option ℕ
found_in listed square = if is_listed listed square then Some (number_in listed square) else None

-- the number of a square for which no node has to be added: 0 of an empty one, else that of its
-- node
abbrev pub number_of : NodeList → Sq → Option ℕ
number_of list sq = if sq.num.0 == 0 then Some 0 else value_of list.numbers sq

-- this is the number of a square among these squares, whatever squares follow them
pub record HasNumber (listed : List Square) (square : Square) (number : ℕ) : Type 0 where
  pub numbered : (more : List Square) → number_in (listed ++ more) square ≡ number

-- the nodes and the numbers of these squares, whatever squares follow them: a square of theirs adds
-- none
pub record AreListed (book : Book) (listed : List Square) (list : NodeList) : Type 0 where
  pub numbers : (sq : Sq) → IsTrue (book.knows sq) →
      value_of list.numbers sq ≡ found_in listed (square_of book sq)
  pub texts : (more : List Square) →
      map (square_text (listed ++ more)) listed ≡ map node_text list.nodes.items
  pub no_more : (sq : Sq) → IsTrue (book.knows sq) → is_listed listed (square_of book sq) ≡ true →
      (more : List Square) → listed_with book (listed ++ more) sq ≡ listed ++ more

-- the new list has the squares of a square, too, which has this number
pub record Lists (book : Book) (sq : Sq) (old new : NodeList) (number : ℕ) : Type 0 where
  pub lists : (listed : List Square) → AreListed book listed old →
      AreListed book (listed_with book listed sq) new
  pub numbers : (listed : List Square) → AreListed book listed old →
      HasNumber (listed_with book listed sq) (square_of book sq) number

-- the new list has the squares of these four, too, which have these numbers
pub record ListsFour (book : Book) (squares : List Sq) (old new : NodeList)
    (numbers : List ℕ) : Type 0 where
  pub number_nw : ℕ
  pub number_ne : ℕ
  pub number_sw : ℕ
  pub number_se : ℕ
  pub are : numbers ≡ number_nw ∷ number_ne ∷ number_sw ∷ number_se ∷ []
  pub with_nw : NodeList
  pub with_ne : NodeList
  pub with_sw : NodeList
  pub nw : Lists book (nth squares 0) old with_nw number_nw
  pub ne : Lists book (nth squares 1) with_nw with_ne number_ne
  pub sw : Lists book (nth squares 2) with_ne with_sw number_sw
  pub se : Lists book (nth squares 3) with_sw new number_se

-- the nodes of the plane's squares
pub record AreNodes (plane : Plane) (nodes : List ListedNode) : Type 0 where
  pub level : ℕ
  pub smallest : IsSmallestLevel level plane
  pub lines : flat_map node_line nodes ≡ node_lines (listed_in level (from_corner level plane))

-- whether the four numbers are all 0
abbrev pub are_zero : List ℕ → Bool
are_zero quarters = pointwise nat_eq quarters (0 ∷ 0 ∷ 0 ∷ 0 ∷ [])

-- the node of a root with these quarters, unless they are all empty
abbrev pub root_node : ℕ → List ℕ → List ListedNode
root_node level quarters = if are_zero quarters then [] else (Inner level quarters ∷ [])
