mod Found
mod Lists
mod OtherKeys
mod Served
