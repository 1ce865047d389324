-- Lines of spots that are read, one behind the other.
use Rattle.std.proofs.Common.{◌≡◌, ◌∙◌, ◌+◌, ◌<◌, ◌≤◌, ℕ, false, true, List, [], ◌∷◌, ◌++◌, length, drop, map, refl, sym, ap, subst, arith}
use Rattle.std.proofs.lemmas.Bool.{both_ways}
use Rattle.std.proofs.lemmas.List.{drop-drop}
use Rattle.std.specs.Prelude.{codes}
use Rattle.std.specs.Cmp.Lexicographic.{bytes_decides}
use Rattle.std.specs.List.{AllByRecursion, flat_map}
use Rattle.std.specs.Str.{bytes_eq}
use Rattle.rv_count_tables.specs.declared.table.FunctionName.{FunctionName}
use Rattle.rv_count_tables.specs.declared.table.NamedCallNode.{NamedCallNode}
use Rattle.rv_count_tables.specs.declared.read_stacks.ParsedNodes.{ParsedNodes}
use Rattle.rv_count_tables.specs.Lines.{lacks, whole_line}
use Rattle.rv_count_tables.specs.Table.{name_of, IsValidNamedNode, IsValidNode}
use Rattle.rv_count_tables.specs.Text.{line_of_node, named, node_line, fields_of_node}
use Rattle.rv_count_tables.specs.ReadSteps.{function_name, with_name, AgreesWithName, AreParsedNodes, IsNotANode}
use Rattle.rv_count_tables.proofs.LineTexts.{spot_is_line, spot_words}
use Rattle.rv_count_tables.proofs.NamesOfSpots.{it_has_its_name, names_so_far, no_names_so_far, others_are_named, text_of_named, AreNamesSoFar}
use Rattle.rv_count_tables.proofs.ReadingLines.{each_push, further_within, lacks_path, line_is_long, lines_push, plain_line, same_words, whole_split}
use Rattle.rv_call_tree.specs.declared.call_node.CallNode.{CallNode}
use Rattle.rv_call_tree.specs.Trees.{last_path, path_after, IsTree, MayFollow}
use Rattle.rv_call_tree.proofs.Public.{last_parts, stand_of_parts}

-- so many bytes are the lines of so many items
pub record AreLines {X : Type 0} (f : X → List ℕ) (text : List ℕ) (xs : List X) (n : ℕ) : Type 0 where
  pub within : n ≤ length text
  pub lines : text ≡ flat_map f xs ++ drop n text

one_line : {X : Type 0} (f : X → List ℕ) (text : List ℕ) (xs : List X) (x : X) (n m : ℕ) → AreLines f text xs n
    → whole_line (drop n text) ≡ f x → m ≡ n + length (whole_line (drop n text)) → AreLines f text (xs ++ x ∷ []) m
one_line f text xs x n m h is e =
    let rest : drop (length (whole_line (drop n text))) (drop n text) ≡ drop m text =
    drop-drop (length (whole_line (drop n text))) n text ∙ ap (λ (k : ℕ). drop k text) (sym e) in
    let within = further_within text n h.within in record {
      within = omega (arith, within, e);
      lines = lines_push f xs x text (drop n text) (drop m text) h.lines
          (whole_split (drop n text) ∙ ap (λ (s : List ℕ). s ++ drop (length (whole_line (drop n text))) (drop n text)) is
          ∙ ap (λ (s : List ℕ). f x ++ s) rest);
    }

-- ---- spots

pub spot_is_long : (n : NamedCallNode) → 0 < length (node_line n)
spot_is_long n = subst (λ (t : List ℕ). 0 < length t) (sym (spot_is_line n)) (line_is_long (spot_words n))

pub record SpotsSoFar (text : List ℕ) (ss : List CallNode) (names : List FunctionName) (front : List ℕ) (n : ℕ) : Type 0 where
  pub lines : AreLines (line_of_node names) text ss n
  pub each : AllByRecursion IsValidNode ss
  pub tree : IsTree ss
  pub path : front ≡ last_path [] ss
  pub named : AreNamesSoFar ss names

pub no_spots_so_far : (text : List ℕ) → SpotsSoFar text [] [] [] 0
no_spots_so_far text = record {
  lines = record { within = omega arith; lines = refl };
  each = tt;
  tree = tt;
  path = refl;
  named = no_names_so_far;
}

-- the lines so far are those by the names with one more
lines_by_more : (text : List ℕ) (ss : List CallNode) (names more : List FunctionName) (n : ℕ)
    → map (named more) ss ≡ map (named names) ss → AreLines (line_of_node names) text ss n
    → AreLines (line_of_node more) text ss n
lines_by_more text ss names more n e h = record {
  within = h.within;
  lines = h.lines ∙ ap (λ (t : List ℕ). t ++ drop n text)
      (text_of_named names ss ∙ ap (flat_map node_line) (sym e) ∙ sym (text_of_named more ss));
}

pub one_spot : (text : List ℕ) (ss : List CallNode) (names : List FunctionName) (front : List ℕ) (n m : ℕ) (x : NamedCallNode)
    → SpotsSoFar text ss names front n → IsValidNamedNode x → MayFollow front x.node
    → AgreesWithName x.name (name_of x.node.function names) → whole_line (drop n text) ≡ node_line x
    → m ≡ n + length (whole_line (drop n text))
    → SpotsSoFar text (ss ++ x.node ∷ []) (with_name (function_name x) names) (path_after front x.node) m
one_spot text ss names front n m x h fits stands agrees is e =
    let more = with_name (function_name x) names in record {
      lines = one_line (line_of_node more) text ss x.node n m
          (lines_by_more text ss names more n (others_are_named ss names x fits agrees h.named.names_of_nodes) h.lines)
          (is ∙ ap node_line (sym (it_has_its_name ss names x fits agrees))) e;
      each = each_push IsValidNode ss x.node h.each fits.node;
      tree = stand_of_parts [] ss (x.node ∷ []) h.tree (subst (λ (path : List ℕ). MayFollow path x.node) h.path stands, tt);
      path = ap (λ (path : List ℕ). path_after path x.node) h.path ∙ sym (last_parts [] ss (x.node ∷ []));
      named = names_so_far ss names x fits agrees h.named;
    }

spots_read : (text : List ℕ) (front : List ℕ) (read : ParsedNodes) → SpotsSoFar text read.nodes read.functions front read.length
    → IsNotANode read.functions front (whole_line (drop read.length text)) → AreParsedNodes text read
spots_read text front read h no_more = record {
  within = h.lines.within;
  lines = h.lines.lines;
  nodes = record { each = h.each; tree = h.tree };
  names = h.named.names;
  names_of_nodes = h.named.names_of_nodes;
  known = h.named.known;
  next_line = subst (λ (path : List ℕ). IsNotANode read.functions path (whole_line (drop read.length text))) h.path no_more;
}

-- ---- a line that is read

pub plain_name : (text : List ℕ) (n : NamedCallNode) → whole_line text ≡ node_line n → lacks 10 n.name ≡ true
plain_name text n e =
    let p = plain_line text (spot_words n) (e ∙ spot_is_line n) in
    lacks_path (fields_of_node n.node ++ codes " ") n.name (ap (lacks 10) (sym (same_words p.0 (spot_words n) p.2)) ∙ p.1)

pub no_spot_here : (names : List FunctionName) (front text : List ℕ) (read : NamedCallNode)
    → ((n : NamedCallNode) → IsValidNamedNode n → text ≡ node_line n → read.node ≡ n.node)
    → ((IsValidNode read.node × MayFollow front read.node) → ⊥) → IsNotANode names front text
no_spot_here names front text read same not n h stands agrees e =
    let s = same n h e in
    not (subst IsValidNode (sym s) h.node, subst (MayFollow front) (sym s) stands)

pub no_spot_by_name : (names : List FunctionName) (front text : List ℕ) (read : NamedCallNode)
    → ((n : NamedCallNode) → IsValidNamedNode n → text ≡ node_line n → read.node ≡ n.node)
    → ((n : NamedCallNode) → IsValidNamedNode n → text ≡ node_line n → read.name ≡ n.name)
    → (AgreesWithName read.name (name_of read.node.function names) → ⊥) → IsNotANode names front text
no_spot_by_name names front text read same name not n h stands agrees e =
    let s = same n h e in
    not (subst (λ (t : List ℕ). AgreesWithName t (name_of read.node.function names)) (sym (name n h e))
    (subst (λ (t : CallNode). AgreesWithName n.name (name_of t.function names)) (sym s) agrees))

pub no_spot_line : (names : List FunctionName) (front text : List ℕ) (read : NamedCallNode)
    → ((n : NamedCallNode) → IsValidNamedNode n → text ≡ node_line n → read.node ≡ n.node)
    → ((n : NamedCallNode) → IsValidNamedNode n → text ≡ node_line n → read.name ≡ n.name)
    → bytes_eq text (node_line read) ≡ false → IsNotANode names front text
no_spot_line names front text read same name other n h stands agrees e =
    let s = same n h e in
    let t = name n h e in
    let one : read ≡ n = λ i. record { node = s i; name = t i } in
    both_ways _ other ((bytes_decides text (node_line read)).1 (e ∙ ap node_line (sym one)))

-- no other spot stands behind those that were read
pub all_spots : (text behind front line : List ℕ) (ss : List CallNode) (names : List FunctionName) (read : ParsedNodes)
    → SpotsSoFar text ss names front read.length → read.nodes ≡ ss → read.functions ≡ names → behind ≡ front
    → line ≡ whole_line (drop read.length text) → IsNotANode names behind line → AreParsedNodes text read
all_spots text behind front line ss names read h same named e w none = spots_read text front read
    (subst (λ (xs : List CallNode). SpotsSoFar text xs read.functions front read.length) (sym same)
    (subst (λ (ns : List FunctionName). SpotsSoFar text ss ns front read.length) (sym named) h))
    (subst (λ (ns : List FunctionName). IsNotANode ns front (whole_line (drop read.length text))) (sym named)
    (subst (λ (path : List ℕ). IsNotANode names path (whole_line (drop read.length text))) e
    (subst (IsNotANode names behind) w none)))
