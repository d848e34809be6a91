-- What the layers are called.
use Rattle.std.specs.Prelude.{ℕ, List, codes}
use Rattle.store.specs.declared.Layer.{Layer}
use Rattle.store.specs.declared.Layer.TheVariants.{Store, Certifier, Opening, Card, Sheet, File}

abbrev pub layer_text : Layer → List ℕ
layer_text Store = codes "store"
layer_text Certifier = codes "certifier"
layer_text Opening = codes "opening"
layer_text Card = codes "card"
layer_text Sheet = codes "sheet"
layer_text File = codes "file"
