-- What stands behind the line of an image, as one list.
use Rattle.std.proofs.Common.{◌≡◌, ◌∙◌, ◌+◌, ℕ, true, List, [], ◌∷◌, ◌++◌, Option, Some, None, map, refl, sym, ap, subst, append_assoc}
use Rattle.std.proofs.lemmas.Bool.{and_parts, false≢true}
use Rattle.std.specs.Prelude.{nat_le}
use Rattle.std.specs.List.{AllByRecursion, flat_map}
use Rattle.rv_count_tables.specs.declared.table.AddressCounts.{AddressCounts}
use Rattle.rv_count_tables.specs.declared.table.FunctionName.{FunctionName}
use Rattle.rv_count_tables.specs.declared.table.ImageCounts.{ImageCounts}
use Rattle.rv_count_tables.specs.declared.table.NamedCallNode.{NamedCallNode}
use Rattle.rv_count_tables.specs.Table.{has_name, name_of, increase_from, AreNamesOf, IsValidCount, IsValidImage, IsValidName, IsValidNode}
use Rattle.rv_count_tables.specs.Text.{address_line, image_line, image_text, line_of_node, named}
use Rattle.rv_count_tables.specs.ReadSteps.{Entry, Address, Node, IsValidEntry, entry_line, entry_of_node, entries_of, NextLines, after_image_line, before_first_image, after_entry, after_entries, can_be_next_address, AgreesWithName, CanComeNext, IsNotAnEntry, IsNotAnAddress, IsNotANode, function_name, lowest_after, with_name, with_names}
use Rattle.rv_count_tables.proofs.NamesOfSpots.{agree_more, first_is_last, further, named_fits, one_list_of_first_names, AgreeWithAll}
use Rattle.rv_call_tree.specs.Profiles.{ends_some_path}
use Rattle.rv_call_tree.specs.declared.call_node.CallNode.{CallNode}
use Rattle.rv_call_tree.specs.Trees.{last_path, path_after, AreInPreorder}

abbrev pub all_entries : List AddressCounts → List FunctionName → List CallNode → List Entry
all_entries cs ns ss = map Address cs ++ map (entry_of_node ns) ss

-- ---- their text

spots_text : (ns : List FunctionName) (ss : List CallNode)
    → flat_map entry_line (map (entry_of_node ns) ss) ≡ flat_map (line_of_node ns) ss
spots_text ns [] = refl
spots_text ns (s ∷ ss) = ap (λ (t : List ℕ). line_of_node ns s ++ t) (spots_text ns ss)

entries_text : (cs : List AddressCounts) (ns : List FunctionName) (ss : List CallNode)
    → flat_map entry_line (all_entries cs ns ss) ≡ flat_map address_line cs ++ flat_map (line_of_node ns) ss
entries_text [] ns ss = spots_text ns ss
entries_text (c ∷ cs) ns ss = ap (λ (t : List ℕ). address_line c ++ t) (entries_text cs ns ss)
    ∙ sym (append_assoc (address_line c) (flat_map address_line cs) (flat_map (line_of_node ns) ss))

pub image_entries : (i : ImageCounts) → image_text i ≡ image_line i ++ flat_map entry_line (entries_of i)
unfolding image_text
image_entries i =
    append_assoc (image_line i) (flat_map address_line i.addresses) (flat_map (line_of_node i.functions) i.nodes)
    ∙ ap (λ (t : List ℕ). image_line i ++ t) (sym (entries_text i.addresses i.functions i.nodes))

-- ---- each kind by itself

abbrev addresses_in : List Entry → List AddressCounts
addresses_in [] = []
addresses_in (Address c ∷ es) = c ∷ addresses_in es
addresses_in (Node s ∷ es) = addresses_in es

abbrev named_in : List Entry → List NamedCallNode
named_in [] = []
named_in (Address c ∷ es) = named_in es
named_in (Node s ∷ es) = s ∷ named_in es

abbrev spots_in : List NamedCallNode → List CallNode
spots_in [] = []
spots_in (n ∷ ns) = n.node ∷ spots_in ns

addresses_of_spots : (ns : List FunctionName) (ss : List CallNode) → addresses_in (map (entry_of_node ns) ss) ≡ []
addresses_of_spots ns [] = refl
addresses_of_spots ns (s ∷ ss) = addresses_of_spots ns ss

addresses_are : (cs : List AddressCounts) (ns : List FunctionName) (ss : List CallNode) → addresses_in (all_entries cs ns ss) ≡ cs
addresses_are [] ns ss = addresses_of_spots ns ss
addresses_are (c ∷ cs) ns ss = ap (λ (t : List AddressCounts). c ∷ t) (addresses_are cs ns ss)

named_of_spots : (ns : List FunctionName) (ss : List CallNode) → named_in (map (entry_of_node ns) ss) ≡ map (named ns) ss
named_of_spots ns [] = refl
named_of_spots ns (s ∷ ss) = ap (λ (t : List NamedCallNode). named ns s ∷ t) (named_of_spots ns ss)

named_are : (cs : List AddressCounts) (ns : List FunctionName) (ss : List CallNode) → named_in (all_entries cs ns ss) ≡ map (named ns) ss
named_are [] ns ss = named_of_spots ns ss
named_are (c ∷ cs) ns ss = named_are cs ns ss

spots_are : (ns : List FunctionName) (ss : List CallNode) → spots_in (map (named ns) ss) ≡ ss
spots_are ns [] = refl
spots_are ns (s ∷ ss) = ap (λ (t : List CallNode). s ∷ t) (spots_are ns ss)

pub record AreSame (i j : ImageCounts) : Type 0 where
  pub addresses : i.addresses ≡ j.addresses
  pub functions : i.functions ≡ j.functions
  pub nodes : i.nodes ≡ j.nodes

pub same_parts : (i j : ImageCounts) → IsValidImage i → IsValidImage j → entries_of i ≡ entries_of j → AreSame i j
same_parts i j h k e =
    let lines : map (named i.functions) i.nodes ≡ map (named j.functions) j.nodes =
    sym (named_are i.addresses i.functions i.nodes) ∙ ap named_in e ∙ named_are j.addresses j.functions j.nodes in
    let nodes : i.nodes ≡ j.nodes = sym (spots_are i.functions i.nodes) ∙ ap spots_in lines ∙ spots_are j.functions j.nodes in
    let again : map (named i.functions) i.nodes ≡ map (named j.functions) i.nodes =
    lines ∙ ap (λ (ss : List CallNode). map (named j.functions) ss) (sym nodes) in record {
      addresses = sym (addresses_are i.addresses i.functions i.nodes) ∙ ap addresses_in e ∙ addresses_are j.addresses j.functions j.nodes;
      functions = one_list_of_first_names i.functions j.functions i.nodes h.names k.names h.names_of_nodes
          (subst (λ (ss : List CallNode). AreNamesOf ss j.functions) (sym nodes) k.names_of_nodes) again;
      nodes = nodes;
    }

-- ---- they may stand there

abbrev pub StandIn : NextLines → List Entry → Type 0
StandIn p [] = Unit {0}
StandIn p (e ∷ es) = CanComeNext p e × StandIn (after_entry p e) es

stand_spots : (a : Option ℕ) (ms ns : List FunctionName) (front : List ℕ) (ss : List CallNode) → AreInPreorder front ss
    → AgreeWithAll ns ms → StandIn (record { address = a; names = ms; previous_path = Some front }) (map (entry_of_node ns) ss)
stand_spots a ms ns front [] h k = tt
stand_spots a ms ns front (s ∷ ss) h k = (
  (h.0, k s.function),
  stand_spots None (with_name (function_name (named ns s)) ms) ns (path_after front s) ss h.1 (agree_more ns ms s k),
)

stand_addresses : (lowest : ℕ) (cs : List AddressCounts) (ns : List FunctionName) (ss : List CallNode) → increase_from lowest cs ≡ true
    → AreInPreorder [] ss → StandIn (record { address = Some lowest; names = []; previous_path = Some [] }) (all_entries cs ns ss)
unfolding increase_from
stand_addresses lowest [] ns ss h m = stand_spots (Some lowest) [] ns [] ss m (λ f. tt)
stand_addresses lowest (c ∷ cs) ns ss h m =
    let p = and_parts (nat_le lowest c.address) (increase_from (c.address + 1) cs) h in
    (p.0, stand_addresses (c.address + 1) cs ns ss p.1 m)

pub entries_stand : (i : ImageCounts) → IsValidImage i → StandIn after_image_line (entries_of i)
entries_stand i h = stand_addresses 0 i.addresses i.functions i.nodes h.counts.rising h.nodes.tree

fit_spots : (ns : List FunctionName) (ss : List CallNode) → AllByRecursion IsValidName ns → AllByRecursion IsValidNode ss
    → ((f : ℕ) → ends_some_path f ss ≡ true → has_name (name_of f ns) ≡ true)
    → AllByRecursion IsValidEntry (map (entry_of_node ns) ss)
fit_spots ns [] h k have = tt
fit_spots ns (s ∷ ss) h k have = (
  named_fits ns s h k.0 (have s.function (first_is_last s ss)),
  fit_spots ns ss h k.1 (λ f some. have f (further f s ss some)),
)

fit_all : (cs : List AddressCounts) (ns : List FunctionName) (ss : List CallNode) → AllByRecursion IsValidCount cs
    → AllByRecursion IsValidEntry (map (entry_of_node ns) ss) → AllByRecursion IsValidEntry (all_entries cs ns ss)
fit_all [] ns ss h k = k
fit_all (c ∷ cs) ns ss h k = (h.0, fit_all cs ns ss h.1 k)

pub entries_fit : (i : ImageCounts) → IsValidImage i → AllByRecursion IsValidEntry (entries_of i)
entries_fit i h = fit_all i.addresses i.functions i.nodes h.counts.each
    (fit_spots i.functions i.nodes h.names.each h.nodes.each (λ f some. h.names_of_nodes f ∙ some))

-- ---- the place behind them

abbrev pub if_none : {X : Type 0} → List X → Option ℕ → Option ℕ
if_none [] a = a
if_none (x ∷ xs) a = None

none_stays : {X : Type 0} (xs : List X) → if_none xs None ≡ None
none_stays [] = refl
none_stays (x ∷ xs) = refl

spots_place : (a : Option ℕ) (ms ns : List FunctionName) (front : List ℕ) (ss : List CallNode)
    → after_entries (record { address = a; names = ms; previous_path = Some front }) (map (entry_of_node ns) ss)
    ≡ record { address = if_none ss a; names = with_names ms (map (named ns) ss); previous_path = Some (last_path front ss) }
spots_place a ms ns front [] = refl
spots_place a ms ns front (s ∷ ss) =
    let more = with_name (function_name (named ns s)) ms in
    spots_place None more ns (path_after front s) ss
    ∙ (λ i. record {
      address = none_stays ss i;
      names = with_names more (map (named ns) ss);
      previous_path = Some (last_path (path_after front s) ss);
    })

entries_place : (lowest : ℕ) (cs : List AddressCounts) (ns : List FunctionName) (ss : List CallNode)
    → after_entries (record { address = Some lowest; names = []; previous_path = Some [] }) (all_entries cs ns ss)
    ≡ record {
      address = if_none ss (Some (lowest_after lowest cs));
      names = with_names [] (map (named ns) ss);
      previous_path = Some (last_path [] ss);
    }
entries_place lowest [] ns ss = spots_place (Some lowest) [] ns [] ss
entries_place lowest (c ∷ cs) ns ss = entries_place (c.address + 1) cs ns ss

-- ---- what may not stand there

pub nothing_nowhere : (line : List ℕ) → IsNotAnEntry before_first_image line
nothing_nowhere line (Address c) h may e = false≢true may
nothing_nowhere line (Node n) h may e = may.0

no_address_here : (cs : List AddressCounts) (first second : List ℕ) → IsNotAnAddress (lowest_after 0 cs) first → (ss : List CallNode)
    → (ss ≡ [] → first ≡ second) → (c : AddressCounts) → IsValidCount c
    → can_be_next_address (if_none ss (Some (lowest_after 0 cs))) c.address ≡ true → second ≡ address_line c → ⊥
no_address_here cs first second no_address [] one c h may e = no_address c h may (one refl ∙ e)
no_address_here cs first second no_address (s ∷ ss) one c h may e = false≢true may

-- behind both no other of any kind stands, where none of each stood behind its own
pub empty_entry : (cs : List AddressCounts) (ns : List FunctionName) (ss : List CallNode) (first second : List ℕ)
    → IsNotAnAddress (lowest_after 0 cs) first → IsNotANode ns (last_path [] ss) second
    → ns ≡ with_names [] (map (named ns) ss) → (ss ≡ [] → first ≡ second)
    → IsNotAnEntry (after_entries after_image_line (all_entries cs ns ss)) second
empty_entry cs ns ss first second no_address no_spot known one =
    subst (λ (p : NextLines). IsNotAnEntry p second) (sym (entries_place 0 cs ns ss)) by_kind
  where
    by_kind : IsNotAnEntry (record {
      address = if_none ss (Some (lowest_after 0 cs));
      names = with_names [] (map (named ns) ss);
      previous_path = Some (last_path [] ss);
    }) second
    by_kind (Address c) h may e = no_address_here cs first second no_address ss one c h may e
    by_kind (Node n) h may e = no_spot n h may.0
        (subst (λ (names : List FunctionName). AgreesWithName n.name (name_of n.node.function names)) (sym known) may.1) e
