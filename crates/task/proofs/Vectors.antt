-- What words ask for, computed: a wrong text, name, bound or order of the settings does not check.
use Rattle.std.proofs.Common.{◌≡◌, List, [], ◌∷◌, Some, None, Result, Ok, Err, codes, false, option_map, refl, true}
use Rattle.std.specs.Int.Count.{count_leading_zeros, ones}
use Rattle.hex.specs.Hex.{decode_pairs}
use Rattle.hashes.specs.declared.kind.Kind.TheVariants as kind
use Rattle.hashes.specs.declared.share.Share.{Share}
use Rattle.request.proofs.ExampleWords.{clap_on_literals, subcommand_of}
use Rattle.request.specs.CommandLine.{NameList, Text, sums_app}
use Rattle.task.specs.Tasks.{Asked, asked, checks, checks_tags, digests, in_file, joins, least_power, prints_line}
use Rattle.task.specs.Tasks.{prints_lines, prints_parts, tags, these, verifies}
use Rattle.task.specs.declared.hashing.Form.TheVariants.{Plain}
use Rattle.task.specs.declared.hashing.Hash.TheVariants.{Whole}
use Rattle.task.specs.declared.tagging.Mac.TheVariants.{Blake2b, Blake2s}

-- these words behind the program's name are judged so, whatever the names of `-a` are
abbrev Asks : List Text → Result Asked Text → Type 0
Asks words answer = (names macs both : NameList)
    → option_map asked (subcommand_of (sums_app names macs both) (codes "sums" ∷ words)) ≡ Some answer

-- all of a run
abbrev whole : Share
whole = record { others = 0; waiting = 0 }

hash_file : Asks (codes "hash" ∷ codes "-asha256" ∷ codes "f" ∷ []) (Ok (prints_lines (digests (record {
  hash = Whole kind.Sha256;
  stretch = record { position = 0; length = 32 };
  form = Plain;
})) (these (codes "f" ∷ [])) whole))
unfolding clap_on_literals sums_app
hash_file names macs both = refl

hash_label : Asks (codes "hash" ∷ codes "-ablake3" ∷ codes "--tag" ∷ codes "-l" ∷ codes "33" ∷ [])
    (Err (codes "-l: out of range\n"))
unfolding clap_on_literals sums_app
hash_label names macs both = refl

hash_salt : Asks (codes "hash" ∷ codes "-ablake3" ∷ codes "--salt" ∷ codes "00" ∷ [])
    (Err (codes "--salt: not for this algorithm\n"))
unfolding clap_on_literals sums_app
hash_salt names macs both = refl

hash_verify : Asks (codes "hash" ∷ codes "-ablake2s" ∷ codes "--verify=00" ∷ codes "f" ∷ codes "g" ∷ [])
    (Err (codes "--verify: one file only\n"))
unfolding clap_on_literals sums_app
hash_verify names macs both = refl

hash_after_another_name : Asks (codes "hash" ∷ codes "-asha256" ∷ codes "--verify=blake2s:00" ∷ codes "f" ∷ [])
    (Err (codes "--verify: not hexadecimal\n"))
unfolding clap_on_literals sums_app decode_pairs
hash_after_another_name names macs both = refl

hash_name_alone : Asks (codes "hash" ∷ codes "-ablake2b" ∷ codes "--verify=blake2b:" ∷ codes "f" ∷ [])
    (Err (codes "--verify: wrong length\n"))
unfolding clap_on_literals sums_app decode_pairs
hash_name_alone names macs both = refl

mac_after_its_name : Asks (codes "mac" ∷ codes "-ablake2s" ∷ codes "--key-file=k" ∷ codes "-l1"
    ∷ codes "--verify=blake2s:AA" ∷ codes "f" ∷ [])
    (Ok (prints_line (tags (Blake2s 1) false (in_file (codes "k"))) (Some (170 ∷ [])) (codes "f") (codes "f")))
unfolding clap_on_literals sums_app decode_pairs
mac_after_its_name names macs both = refl

mac_key : Asks (codes "mac" ∷ codes "-ablake2b" ∷ codes "--key-file" ∷ codes "k" ∷ codes "f" ∷ [])
    (Ok (prints_lines (tags (Blake2b 64) false (in_file (codes "k"))) (these (codes "f" ∷ [])) whole))
unfolding clap_on_literals sums_app
mac_key names macs both = refl

mac_listed : Asks (codes "mac" ∷ codes "-ablake2s" ∷ codes "--key-file=k" ∷ codes "--files0-from=l" ∷ [])
    (Ok (prints_lines (tags (Blake2s 32) false (in_file (codes "k"))) (in_file (codes "l")) whole))
unfolding clap_on_literals sums_app
mac_listed names macs both = refl

mac_named : Asks (codes "mac" ∷ codes "-ablake2s" ∷ codes "--key-file=k" ∷ codes "--name=n" ∷ [])
    (Ok (prints_line (tags (Blake2s 32) false (in_file (codes "k"))) None (codes "n") (codes "-")))
unfolding clap_on_literals sums_app
mac_named names macs both = refl

mac_raw : Asks (codes "mac" ∷ codes "-ablake2s" ∷ codes "-l33" ∷ codes "--raw" ∷ codes "f" ∷ codes "g" ∷ [])
    (Err (codes "--raw: one file only\n"))
unfolding clap_on_literals sums_app
mac_raw names macs both = refl

mac_sources : Asks (codes "mac" ∷ codes "-ablake2s" ∷ codes "--key-file=k" ∷ codes "--files0-from=l" ∷ codes "f" ∷ [])
    (Err (codes "give only one of FILE and --files0-from\n"))
unfolding clap_on_literals sums_app
mac_sources names macs both = refl

mac_keys : Asks (codes "mac" ∷ codes "-ahmac-sha256" ∷ codes "-l15" ∷ codes "--key=" ∷ codes "--key-file=k" ∷ [])
    (Err (codes "-l: out of range\n"))
unfolding clap_on_literals sums_app
mac_keys names macs both = refl

kdf_context : Asks (codes "kdf" ∷ codes "-ablake3" ∷ codes "--ikm-file" ∷ codes "m" ∷ codes "-l9" ∷ [])
    (Err (codes "--context: needed\n"))
unfolding clap_on_literals sums_app
kdf_context names macs both = refl

check_input : Asks (codes "check" ∷ [])
    (Ok (checks None (record { is_summed = false }) (these (record { others = 0; waiting = 0 })) (codes "-" ∷ [])))
unfolding clap_on_literals sums_app
check_input names macs both = refl

check_tags : Asks (codes "check" ∷ codes "-ablake2s" ∷ codes "-l8" ∷ codes "--key-file=k" ∷ codes "l" ∷ [])
    (Ok (checks_tags (Blake2s 8) 8 (in_file (codes "k")) (record { is_summed = false })
    (these (record { others = 0; waiting = 0 })) (codes "l" ∷ [])))
unfolding clap_on_literals sums_app
check_tags names macs both = refl

check_share : Asks (codes "check" ∷ codes "--share=2/3" ∷ codes "l" ∷ [])
    (Ok (checks None (record { is_summed = false }) (these (record { others = 2; waiting = 2 })) (codes "l" ∷ [])))
unfolding clap_on_literals sums_app
check_share names macs both = refl

check_report : Asks (codes "check" ∷ codes "--summary" ∷ codes "--report=r" ∷ codes "l" ∷ [])
    (Ok (checks None (record { is_summed = true }) (in_file (codes "r")) (codes "l" ∷ [])))
unfolding clap_on_literals sums_app
check_report names macs both = refl

check_share_report : Asks (codes "check" ∷ codes "--told=r" ∷ codes "--share=0" ∷ [])
    (Err (codes "--share: not with --report\n"))
unfolding clap_on_literals sums_app
check_share_report names macs both = refl

check_long : Asks (codes "check" ∷ codes "-ablake3" ∷ codes "-l65" ∷ codes "--key=0" ∷ codes "l" ∷ [])
    (Err (codes "-l: out of range\n"))
unfolding clap_on_literals sums_app
check_long names macs both = refl

check_unkeyed : Asks (codes "check" ∷ codes "-ahmac-sha256" ∷ codes "-l9" ∷ codes "l" ∷ [])
    (Err (codes "give one of --key and --key-file\n"))
unfolding clap_on_literals sums_app
check_unkeyed names macs both = refl

check_sha256 : Asks (codes "check" ∷ codes "-asha256" ∷ codes "--key-file=k" ∷ codes "l" ∷ [])
    (Err (codes "-a: out of range\n"))
unfolding clap_on_literals sums_app
check_sha256 names macs both = refl

part_room : Asks (codes "part" ∷ codes "-ablake3" ∷ codes "--first=2" ∷ codes "--chunks=3" ∷ [])
    (Err (codes "--first: out of range\n"))
unfolding clap_on_literals sums_app least_power count_leading_zeros
part_room names macs both = refl

part_sha256 : Asks (codes "part" ∷ codes "-asha256" ∷ codes "--list" ∷ []) (Err (codes "-a: not for this command\n"))
unfolding clap_on_literals sums_app
part_sha256 names macs both = refl

part_each : Asks (codes "part" ∷ codes "-ablake3" ∷ codes "--each=2" ∷ codes "--chunks" ∷ codes "2" ∷ [])
    (Err (codes "--chunks: not with --each\n"))
unfolding clap_on_literals sums_app ones
part_each names macs both = refl

join_input : Asks (codes "join" ∷ codes "-ablake3" ∷ []) (Ok (joins (record { position = 0; length = 32 }) None None
    (codes "-") (codes "-" ∷ [])))
unfolding clap_on_literals sums_app
join_input names macs both = refl

join_after_the_name : Asks (codes "join" ∷ codes "-ablake3" ∷ codes "-l1" ∷ codes "--verify=blake3:0f" ∷ codes "f" ∷ [])
    (Ok (joins (record { position = 0; length = 1 }) None (Some (15 ∷ [])) (codes "-") (codes "f" ∷ [])))
unfolding clap_on_literals sums_app decode_pairs
join_after_the_name names macs both = refl

join_digest : Asks (codes "join" ∷ codes "-ablake3" ∷ codes "-l0" ∷ codes "--verify=0" ∷ codes "f" ∷ codes "g" ∷ [])
    (Err (codes "-l: out of range\n"))
unfolding clap_on_literals sums_app
join_digest names macs both = refl

part_verify : Asks (codes "part" ∷ codes "-ablake3" ∷ codes "--verify=p" ∷ codes "f" ∷ [])
    (Ok (verifies (codes "p") (codes "f") whole))
unfolding clap_on_literals sums_app
part_verify names macs both = refl

part_verify_each : Asks (codes "part" ∷ codes "-ablake3" ∷ codes "--each=3" ∷ codes "--verify=p" ∷ codes "f" ∷ [])
    (Err (codes "--each: not with --verify\n"))
unfolding clap_on_literals sums_app
part_verify_each names macs both = refl

part_verify_share : Asks (codes "part" ∷ codes "-ablake3" ∷ codes "--share=1/4" ∷ codes "--verify=p" ∷ codes "f" ∷ [])
    (Ok (verifies (codes "p") (codes "f") (record { others = 3; waiting = 1 })))
unfolding clap_on_literals sums_app
part_verify_share names macs both = refl

part_each_share : Asks (codes "part" ∷ codes "-ablake3" ∷ codes "--each=2" ∷ codes "--share=2/3" ∷ codes "f" ∷ [])
    (Ok (prints_parts 2 (codes "f") (record { others = 2; waiting = 2 })))
unfolding clap_on_literals sums_app ones
part_each_share names macs both = refl

part_each_share_input : Asks (codes "part" ∷ codes "-ablake3" ∷ codes "--each=2" ∷ codes "--share=3/3" ∷ [])
    (Err (codes "--share: not of standard input\n"))
unfolding clap_on_literals sums_app ones
part_each_share_input names macs both = refl

part_share : Asks (codes "part" ∷ codes "-ablake3" ∷ codes "--first=2" ∷ codes "--share=0/2" ∷ codes "f" ∷ [])
    (Err (codes "--share: not of one part\n"))
unfolding clap_on_literals sums_app
part_share names macs both = refl

part_list_share : Asks (codes "part" ∷ codes "-ablake3" ∷ codes "--list" ∷ codes "--chunks=2" ∷ codes "--share=0/2"
    ∷ codes "f" ∷ []) (Err (codes "--share: not with --list\n"))
unfolding clap_on_literals sums_app ones
part_list_share names macs both = refl

hash_share : Asks (codes "hash" ∷ codes "-asha256" ∷ codes "--share=2/3" ∷ codes "f" ∷ [])
    (Ok (prints_lines (digests (record {
      hash = Whole kind.Sha256;
      stretch = record { position = 0; length = 32 };
      form = Plain;
    })) (these (codes "f" ∷ [])) (record { others = 2; waiting = 2 })))
unfolding clap_on_literals sums_app
hash_share names macs both = refl

hash_share_behind : Asks (codes "hash" ∷ codes "-asha256" ∷ codes "--share=3/3" ∷ codes "f" ∷ [])
    (Err (codes "--share: out of range\n"))
unfolding clap_on_literals sums_app
hash_share_behind names macs both = refl

hash_share_input : Asks (codes "hash" ∷ codes "-asha256" ∷ codes "--share=0/3" ∷ [])
    (Err (codes "--share: not of standard input\n"))
unfolding clap_on_literals sums_app
hash_share_input names macs both = refl

mac_share_raw : Asks (codes "mac" ∷ codes "-ablake2s" ∷ codes "--key-file=k" ∷ codes "--raw" ∷ codes "--share=9"
    ∷ codes "f" ∷ []) (Err (codes "--share: not with --raw\n"))
unfolding clap_on_literals sums_app
mac_share_raw names macs both = refl
