-- The measure of the cycle of calls {label_value, node_value}: what is left of the depth, which falls at each call.
use Rattle.expressions.proofs.finding.+label_value_node_value.Given as goal

abbrev pub decreases-label_value : goal.decreases-label_value
decreases-label_value l = l.left

abbrev pub decreases-node_value : goal.decreases-node_value
decreases-node_value l = l.left
