-- The width of b, h and i is their element size; and there is one list of nodes.
use mathlib.Core.Path.{refl, ap, ◌∙◌}
use mathlib.Core.List.{List, [], ◌∷◌, ◌++◌}
use Rattle.format.specs.Forest.{end, known, unknown}
use Rattle.format.specs.Layout.{Property}
use Rattle.format.proofs.OneBody.{one_body}
use Rattle.valid.specs.Nodes.{Node, nodes_of}
use Rattle.valid.specs.Statements.{WidthIsSize, OneNodeList}
use Rattle.valid.proofs.Values.{says_n, width_size}

pub width_is_size : WidthIsSize
width_is_size code n = width_size code ((says_n code).1 n)

pub one_node_list : OneNodeList
one_node_list end a b = refl
one_node_list (known k h p body kids next) a b =
    let node : List Property → Node = λ ps. record { kind = k; hash = h; properties = ps } in
    ap (λ ps. node ps ∷ (nodes_of kids a.4 ++ nodes_of next a.5)) (one_body p body a.3 b.3)
    ∙ ap (λ ns. node b.3.properties ∷ (ns ++ nodes_of next a.5)) (one_node_list kids a.4 b.4)
    ∙ ap (λ ns. node b.3.properties ∷ (nodes_of kids b.4 ++ ns)) (one_node_list next a.5 b.5)
one_node_list (unknown k h p c rest next) a b = ap (λ ns. record { kind = k; hash = h; properties = [] } ∷ ns) (one_node_list next a.3 b.3)
