use Rattle.leaf_kernels.proofs.choice.Choice.new.Goals as goal

pub returns : goal.returns
returns c = record {
  zero = c.everywhere.ensures;
  one = c.everywhere-2.ensures;
  two = c.everywhere-3.ensures;
  three = c.everywhere-4.ensures;
  four = c.everywhere-5.ensures;
  five = c.everywhere-6.ensures;
  six = c.everywhere-7.ensures;
  seven = c.everywhere-8.ensures;
  eight = c.everywhere-9.ensures;
}
