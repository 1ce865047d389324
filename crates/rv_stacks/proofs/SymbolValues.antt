-- The function of an address, by the value of its symbol.
use Rattle.std.proofs.Common.{◌≡◌, ◌-◌, ℕ, List, Option, Some, None, option_map, refl}
use Rattle.rv_stacks.specs.Stacks.{last_address, no_symbol_number, start_of}

module _ (address : ℕ) where
  abbrev pub value_of : Option (List ℕ × ℕ) → Option ℕ
  value_of symbol = option_map (λ (s : List ℕ × ℕ). address - s.1) symbol

  pub starts_there : (none : ℕ) (symbol : Option (List ℕ × ℕ)) (value : ℕ) → Some value ≡ value_of symbol
      → value ≡ start_of none address symbol
  starts_there none None value e = cc
  starts_there none (Some s) value e = cc

  pub starts_nowhere : (none : ℕ) (symbol : Option (List ℕ × ℕ)) → None ≡ value_of symbol → start_of none address symbol ≡ none
  starts_nowhere none None e = refl
  starts_nowhere none (Some s) e = cc

  pub some_function : (symbol : Option (List ℕ × ℕ)) (value : ℕ) → Some value ≡ value_of symbol → last_address ≡ no_symbol_number symbol
  some_function None value e = cc
  some_function (Some s) value e = refl

  pub none_there : (symbol : Option (List ℕ × ℕ)) → None ≡ value_of symbol → 0 ≡ no_symbol_number symbol
  none_there None e = refl
  none_there (Some s) e = cc
