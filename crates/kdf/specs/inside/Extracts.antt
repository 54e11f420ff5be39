-- What contracts see of an `Extract`: the HMAC that it is.
use Rattle.mac.specs.declared.hmac.Hmac.{Hmac}
use Rattle.kdf.specs.declared.extract.Extract.{Extract}

-- the HMAC under the salt, of the keying material
abbrev pub extract_mac : {H : Type 0} → Extract H → Hmac H
extract_mac extract = extract.mac
