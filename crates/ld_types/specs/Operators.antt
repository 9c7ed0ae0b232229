-- What the program's operators stand for.
use Rattle.ld_model.specs.Expressions.{ListOperator, adding, multiplying, PairOperator, subtracting, dividing, Comparison, equal, different, greater, less}
use Rattle.ld_types.specs.declared.types.Comparison.{Comparison as CodeComparison}
use Rattle.ld_types.specs.declared.types.Comparison.TheVariants.{Equal, Different, Greater, Less}
use Rattle.ld_types.specs.declared.types.ListOperator.{ListOperator as CodeListOperator}
use Rattle.ld_types.specs.declared.types.ListOperator.TheVariants.{Adding, Multiplying}
use Rattle.ld_types.specs.declared.types.PairOperator.{PairOperator as CodePairOperator}
use Rattle.ld_types.specs.declared.types.PairOperator.TheVariants.{Subtracting, Dividing}

-- The operator of two terms or more that the program's one stands for.
abbrev pub checked_list_operator_of : CodeListOperator → ListOperator
checked_list_operator_of Adding = adding
checked_list_operator_of Multiplying = multiplying

-- The operator of just two terms that the program's one stands for.
abbrev pub checked_pair_operator_of : CodePairOperator → PairOperator
checked_pair_operator_of Subtracting = subtracting
checked_pair_operator_of Dividing = dividing

-- The comparison of two terms that the program's one stands for.
abbrev pub checked_comparison_of : CodeComparison → Comparison
checked_comparison_of Equal = equal
checked_comparison_of Different = different
checked_comparison_of Greater = greater
checked_comparison_of Less = less
